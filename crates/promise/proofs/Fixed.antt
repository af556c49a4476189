-- The contracts fix their results: a result can be read back from what the contracts show of it, so that nothing of it is left open. Assumes
-- nothing.
use mathlib.Core.Path.{◌≡◌, refl, sym, ap, ◌∙◌}
use mathlib.Core.Bool.{Bool, true, false}
use lib.ListN.{get_or}
use lib.Dec.{eqb}
use Rattle.field.specs.Test.{pick}
use Rattle.store.specs.declared.known.Numbers.{Numbers}
use Rattle.answering.specs.declared.ListAnswer.{ListAnswer}
use Rattle.store.specs.Calls.{Left}
use Rattle.promise.specs.Fixed.{Result, replied, recovered, found, listed, Fixes, Fixed}

-- what can be read back is fixed
fixes : {A : Type 0} (shown : Result A → Left) (back : Left → Result A) → ((x : Result A) → back (shown x) ≡ x)
    → (means : Left) → Fixes shown means
fixes shown back h means x y e f = sym (h x) ∙ ap back (e ∙ sym f) ∙ h y

-- the numbers, and the struct beside the buffers, read back
abbrev numbers : Left → Numbers
numbers z = record { used = z.now.used; forced = z.now.forced }

abbrev buffers : {A : Type 0} → (Left → A) → Left → Result A
buffers answer z =
    record { answer = answer z; work = z.now.work; store = z.now.store; log = z.now.log; bytes = z.now.bytes }

fixes-reply : (means : Left) → Fixes replied means
fixes-reply = fixes replied (buffers (λ z. record { reply = z.reply; numbers = numbers z })) (λ x. refl)

fixes-recovered : (means : Left) → Fixes recovered means
fixes-recovered =
    fixes recovered (buffers (λ z. record { recovered = record { reply = z.reply; count = get_or z.values 0 0 }; numbers = numbers z })) (λ x. refl)

fixes-found : (means : Left) → Fixes found means
fixes-found = fixes found (buffers (λ z. record { found = record { reply = z.reply; value = z.values }; numbers = numbers z })) (λ x. refl)

-- whether more remain is shown as 1 or 0
one-is : (b : Bool) → eqb (pick b 1 0) 1 ≡ b
unfolding pick
one-is true = refl
one-is false = refl

more-is : (x : Result ListAnswer) → eqb (get_or (listed x).values 1 0) 1 ≡ x.answer.listed.more
more-is x = one-is x.answer.listed.more

fixes-listed : (means : Left) → Fixes listed means
fixes-listed =
    fixes listed
    (buffers (λ z. record {
      listed = record { reply = z.reply; count = get_or z.values 0 0; more = eqb (get_or z.values 1 0) 1 };
      numbers = numbers z;
    }))
    (λ x. rw (more-is x) refl)

pub fixed : Fixed
fixed =
    record {
      build = λ f g d. fixes-reply _;
      recover = λ d. fixes-recovered _;
      begin_compact = λ fill d. fixes-reply _;
      begin_order = λ d. fixes-reply _;
      begin_put = λ d. fixes-reply _;
      begin_delete = λ key d. fixes-reply _;
      step = λ d. fixes-reply _;
      flush = λ p d. fixes-reply _;
      force = λ d. fixes-reply _;
      checkpoint = λ clear d. fixes-reply _;
      find = λ key d. fixes-found _;
      list = λ low high d. fixes-listed _;
    }
