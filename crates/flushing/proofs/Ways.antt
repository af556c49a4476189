-- Each way through flush's tests, as a law. Assumes nothing.
use Prim.Native.Nat.{ℕ, ◌≤◌, ◌<◌}
use mathlib.Core.Path.{◌≡◌, ◌∙◌}
use mathlib.Core.Bool.{true, false}
use mathlib.Core.List.{[]}
use mathlib.Core.Option.{some, none}
use lib.Dec.{leb}
use borrow.Author.Tests.{le-leb, lt-leb, lt-ltb, le-ltb}
use Rattle.field.proofs.Test.{need-true, need-false, given-some, given-none}
use Rattle.page.specs.Page.{number}
use Rattle.page.specs.Pages.{page, put_page}
use Rattle.logs.specs.Log.{Log, last_forced}
use Rattle.store.specs.Calls.{Lent, lent, left, refused, three_sized, known, flush}

module _ (p : ℕ) (d : Lent) where
  pub flush-unsized : three_sized d ≡ false → flush p d ≡ refused 0 1 d
  unfolding flush
  flush-unsized e = need-false (three_sized d) (refused 0 1 d) _ e

  module _ (s : three_sized d ≡ true) where
    pub flush-unknown : known d ≡ none → flush p d ≡ refused 0 2 d
    unfolding flush
    flush-unknown e = need-true (three_sized d) (refused 0 1 d) _ s ∙ given-none (known d) (refused 0 2 d) _ e

    module _ (g : Log) (k : known d ≡ some g) where
      pub flush-range : 64 ≤ p → flush p d ≡ refused 0 12 d
      unfolding flush
      flush-range h =
          need-true (three_sized d) (refused 0 1 d) _ s ∙ given-some (known d) g (refused 0 2 d) _ k ∙ need-false _ (refused 0 12 d) _ (le-ltb p 64 h)

      module _ (h : p < 64) (v : ℕ) (f : last_forced d.forced g ≡ some v) where
        pub flush-ahead : v < number (page p d.work) → flush p d ≡ refused 0 13 d
        unfolding flush
        flush-ahead a =
            need-true (three_sized d) (refused 0 1 d) _ s ∙ given-some (known d) g (refused 0 2 d) _ k ∙ need-true _ (refused 0 12 d) _ (lt-ltb p 64 h)
            ∙ need-false _ (refused 0 13 d) _ (given-some (last_forced d.forced g) v false (leb (number (page p d.work))) f ∙ lt-leb _ v a)

        pub flush-flushes : number (page p d.work) ≤ v
            → flush p d ≡ left 0 [] (lent d.used d.forced d.work (put_page p (page p d.work) d.store) d.log d.bytes)
        unfolding flush
        flush-flushes a =
            need-true (three_sized d) (refused 0 1 d) _ s ∙ given-some (known d) g (refused 0 2 d) _ k ∙ need-true _ (refused 0 12 d) _ (lt-ltb p 64 h)
            ∙ need-true _ (refused 0 13 d) _ (given-some (last_forced d.forced g) v false (leb (number (page p d.work))) f ∙ le-leb _ v a)
