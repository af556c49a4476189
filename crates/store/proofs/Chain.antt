-- Each way through a call's chain of tests, as a law: which tests held, and what the call then leaves. Code that makes the same tests cites
-- one law at each of its answers. Assumes nothing.
use Prim.Native.Nat.{ℕ}
use mathlib.Core.Path.{◌≡◌, ◌∙◌}
use mathlib.Core.Bool.{true, false, not}
use mathlib.Core.List.{[], ◌∷◌}
use mathlib.Core.Option.{Option, some, none}
use lib.ListN.{length}
use borrow.Author.Tests.{eq-eqb, ne_eqb}
use Rattle.field.specs.Test.{there}
use Rattle.field.proofs.Test.{both-intro, both_true, both_false, all_true, all-false, all_nil, need-true, need-false, given-some, given-none}
use Rattle.page.specs.Pages.{pages, all_formed}
use Rattle.logs.specs.Log.{Open, Log, at_end}
use Rattle.tree.specs.Tree.{well_formed}
use Rattle.tree.specs.Answer.{look_up, in_bounds, written, count_written, more_remain}
use Rattle.store.specs.Calls.{Lent, lent, left, refused, pages_sized, log_sized, three_sized, two_sized, known, answered, find, list, force}

-- ---- lengths

module _ (d : Lent) where
  pub two-no-work : (length d.work ≡ 16384 → ⊥) → two_sized d ≡ false
  unfolding two_sized pages_sized
  two-no-work a = both_false _ _ (ne_eqb (length d.work) 16384 a)

  module _ (a : length d.work ≡ 16384) where
    pub two-no-log : (length d.log ≡ 8192 → ⊥) → two_sized d ≡ false
    unfolding two_sized pages_sized log_sized
    two-no-log b = both_true _ _ (eq-eqb (length d.work) 16384 a) ∙ ne_eqb (length d.log) 8192 b

    pub two_sized_lem : length d.log ≡ 8192 → two_sized d ≡ true
    unfolding two_sized pages_sized log_sized
    two_sized_lem b = both-intro _ _ (eq-eqb (length d.work) 16384 a) (eq-eqb (length d.log) 8192 b)

  pub three-no-work : (length d.work ≡ 16384 → ⊥) → three_sized d ≡ false
  unfolding three_sized pages_sized
  three-no-work a = all-false _ _ (ne_eqb (length d.work) 16384 a)

  module _ (a : length d.work ≡ 16384) where
    pub three-no-store : (length d.store ≡ 16384 → ⊥) → three_sized d ≡ false
    unfolding three_sized pages_sized
    three-no-store b = all_true _ _ (eq-eqb (length d.work) 16384 a) ∙ all-false _ _ (ne_eqb (length d.store) 16384 b)

    module _ (b : length d.store ≡ 16384) where
      pub three-no-log : (length d.log ≡ 8192 → ⊥) → three_sized d ≡ false
      unfolding three_sized pages_sized log_sized
      three-no-log c =
          all_true _ _ (eq-eqb (length d.work) 16384 a) ∙ all_true _ _ (eq-eqb (length d.store) 16384 b)
          ∙ all-false _ _ (ne_eqb (length d.log) 8192 c)

      pub three-sized : length d.log ≡ 8192 → three_sized d ≡ true
      unfolding three_sized pages_sized log_sized
      three-sized c =
          all_true _ _ (eq-eqb (length d.work) 16384 a) ∙ all_true _ _ (eq-eqb (length d.store) 16384 b)
          ∙ all_true _ _ (eq-eqb (length d.log) 8192 c) ∙ all_nil

-- ---- a unit is open, or none

pub not_there : {A : Type 0} (o : Option A) → o ≡ none → not (there o) ≡ true
unfolding there
not_there o e = rw e

pub is-there : {A : Type 0} (o : Option A) (a : A) → o ≡ some a → not (there o) ≡ false
unfolding there
is-there o a e = rw e

-- ---- find

module _ (key : ℕ) (d : Lent) where
  pub find-unsized : two_sized d ≡ false → find key d ≡ refused 10 1 d
  unfolding find
  find-unsized e = need-false (two_sized d) (refused 10 1 d) _ e

  module _ (s : two_sized d ≡ true) where
    pub find-unknown : known d ≡ none → find key d ≡ refused 10 2 d
    unfolding find
    find-unknown e = need-true (two_sized d) (refused 10 1 d) _ s ∙ given-none (known d) (refused 10 2 d) _ e

    module _ (g : Log) (k : known d ≡ some g) where
      pub find-open : (o : Open) → (at_end g).opened ≡ some o → find key d ≡ refused 10 9 d
      unfolding find
      find-open o e =
          need-true (two_sized d) (refused 10 1 d) _ s ∙ given-some (known d) g (refused 10 2 d) _ k
          ∙ need-false _ (refused 10 9 d) _ (is-there (at_end g).opened o e)

      pub find-looks : (at_end g).opened ≡ none → find key d ≡ answered d (look_up key d.work)
      unfolding find
      find-looks e =
          need-true (two_sized d) (refused 10 1 d) _ s ∙ given-some (known d) g (refused 10 2 d) _ k
          ∙ need-true _ (refused 10 9 d) _ (not_there (at_end g).opened e)

-- ---- list

module _ (low high : ℕ) (d : Lent) where
  pub list-unsized : two_sized d ≡ false → list low high d ≡ refused 2 1 d
  unfolding list
  list-unsized e = need-false (two_sized d) (refused 2 1 d) _ e

  module _ (s : two_sized d ≡ true) where
    pub list-unknown : known d ≡ none → list low high d ≡ refused 2 2 d
    unfolding list
    list-unknown e = need-true (two_sized d) (refused 2 1 d) _ s ∙ given-none (known d) (refused 2 2 d) _ e

    module _ (g : Log) (k : known d ≡ some g) where
      pub list_open : (o : Open) → (at_end g).opened ≡ some o → list low high d ≡ refused 2 9 d
      unfolding list
      list_open o e =
          need-true (two_sized d) (refused 2 1 d) _ s ∙ given-some (known d) g (refused 2 2 d) _ k
          ∙ need-false _ (refused 2 9 d) _ (is-there (at_end g).opened o e)

      module _ (e : (at_end g).opened ≡ none) where
        pub list-unformed : all_formed 0 (pages d.work) ≡ false → list low high d ≡ refused 2 3 d
        unfolding list
        list-unformed f =
            need-true (two_sized d) (refused 2 1 d) _ s ∙ given-some (known d) g (refused 2 2 d) _ k
            ∙ need-true _ (refused 2 9 d) _ (not_there (at_end g).opened e) ∙ need-false _ (refused 2 3 d) _ f

        module _ (f : all_formed 0 (pages d.work) ≡ true) where
          pub list-unwell : well_formed (pages d.work) ≡ false → list low high d ≡ refused 2 8 d
          unfolding list
          list-unwell t =
              need-true (two_sized d) (refused 2 1 d) _ s ∙ given-some (known d) g (refused 2 2 d) _ k
              ∙ need-true _ (refused 2 9 d) _ (not_there (at_end g).opened e) ∙ need-true _ (refused 2 3 d) _ f ∙ need-false _ (refused 2 8 d) _ t

          pub list-lists : well_formed (pages d.work) ≡ true
              → list low high d
              ≡ left 0 (count_written (in_bounds low high d.work) d.bytes ∷ more_remain (in_bounds low high d.work) d.bytes ∷ [])
              (lent d.used d.forced d.work d.store d.log (written (in_bounds low high d.work) d.bytes))
          unfolding list
          list-lists t =
              need-true (two_sized d) (refused 2 1 d) _ s ∙ given-some (known d) g (refused 2 2 d) _ k
              ∙ need-true _ (refused 2 9 d) _ (not_there (at_end g).opened e) ∙ need-true _ (refused 2 3 d) _ f ∙ need-true _ (refused 2 8 d) _ t

-- ---- force

module _ (d : Lent) where
  pub force-unsized : (length d.log ≡ 8192 → ⊥) → force d ≡ refused 0 1 d
  unfolding force log_sized
  force-unsized a = need-false _ (refused 0 1 d) _ (ne_eqb (length d.log) 8192 a)

  module _ (a : length d.log ≡ 8192) where
    pub force-unknown : known d ≡ none → force d ≡ refused 0 2 d
    unfolding force log_sized
    force-unknown e = need-true _ (refused 0 1 d) _ (eq-eqb (length d.log) 8192 a) ∙ given-none (known d) (refused 0 2 d) _ e

    pub force-forces : (g : Log) → known d ≡ some g → force d ≡ left 0 [] (lent d.used d.used d.work d.store d.log d.bytes)
    unfolding force log_sized
    force-forces g k = need-true _ (refused 0 1 d) _ (eq-eqb (length d.log) 8192 a) ∙ given-some (known d) g (refused 0 2 d) _ k
