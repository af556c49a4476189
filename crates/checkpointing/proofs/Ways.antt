-- Each way through checkpoint's tests, as a law. Assumes nothing.
use Prim.Native.Nat.{◌+◌, ◌≤◌, ◌<◌}
use mathlib.Core.Path.{◌≡◌, ◌∙◌}
use mathlib.Core.Bool.{Bool, true, false}
use mathlib.Core.List.{[]}
use mathlib.Core.Option.{some, none}
use borrow.Author.Tests.{le-leb, lt-leb}
use Rattle.field.specs.Bytes.{same, most4}
use Rattle.field.proofs.Test.{need-true, need-false, given-some, given-none}
use Rattle.logs.specs.Log.{Open, Log, at_end}
use Rattle.store.specs.Calls.{Lent, lent, left, refused, three_sized, known, new_log, checkpointed, checkpoint}
use Rattle.store.proofs.Chain.{not_there, is-there}

module _ (clear : Bool) (d : Lent) where
  pub checkpoint-unsized : three_sized d ≡ false → checkpoint clear d ≡ refused 0 1 d
  unfolding checkpoint
  checkpoint-unsized e = need-false (three_sized d) (refused 0 1 d) _ e

  module _ (s : three_sized d ≡ true) where
    pub checkpoint-unknown : known d ≡ none → checkpoint clear d ≡ refused 0 2 d
    unfolding checkpoint
    checkpoint-unknown e = need-true (three_sized d) (refused 0 1 d) _ s ∙ given-none (known d) (refused 0 2 d) _ e

    module _ (g : Log) (k : known d ≡ some g) where
      pub checkpoint-open : (o : Open) → (at_end g).opened ≡ some o → checkpoint clear d ≡ refused 0 9 d
      unfolding checkpoint
      checkpoint-open o e =
          need-true (three_sized d) (refused 0 1 d) _ s ∙ given-some (known d) g (refused 0 2 d) _ k
          ∙ need-false _ (refused 0 9 d) _ (is-there (at_end g).opened o e)

      module _ (e : (at_end g).opened ≡ none) where
        pub checkpoint-differs : same d.work d.store ≡ false → checkpoint clear d ≡ refused 0 14 d
        unfolding checkpoint
        checkpoint-differs a =
            need-true (three_sized d) (refused 0 1 d) _ s ∙ given-some (known d) g (refused 0 2 d) _ k
            ∙ need-true _ (refused 0 9 d) _ (not_there (at_end g).opened e) ∙ need-false _ (refused 0 14 d) _ a

        module _ (a : same d.work d.store ≡ true) where
          pub checkpoint-last : most4 < (at_end g).number + 1 → checkpoint clear d ≡ refused 0 7 d
          unfolding checkpoint
          checkpoint-last n =
              need-true (three_sized d) (refused 0 1 d) _ s ∙ given-some (known d) g (refused 0 2 d) _ k
              ∙ need-true _ (refused 0 9 d) _ (not_there (at_end g).opened e) ∙ need-true _ (refused 0 14 d) _ a ∙ need-false _ (refused 0 7 d) _ (lt-leb _ most4 n)

          pub checkpoint-done : (at_end g).number + 1 ≤ most4
              → checkpoint clear d ≡ left 0 [] (lent 24 24 d.work d.store (new_log (checkpointed clear (at_end g))) d.bytes)
          unfolding checkpoint
          checkpoint-done n =
              need-true (three_sized d) (refused 0 1 d) _ s ∙ given-some (known d) g (refused 0 2 d) _ k
              ∙ need-true _ (refused 0 9 d) _ (not_there (at_end g).opened e) ∙ need-true _ (refused 0 14 d) _ a ∙ need-true _ (refused 0 7 d) _ (le-leb _ most4 n)
