-- Find's answer rests on three pages: the root, one base page, one leaf. Work pages that agree on these give the same answer. Assumes nothing.
use Prim.Native.Nat.{ℕ}
use mathlib.Core.Path.{◌≡◌, refl, ap, ◌∙◌, subst}
use mathlib.Core.Bool.{Bool, true, false}
use mathlib.Core.List.{List}
use lib.ListN.{length}
use mathlib.Core.Option.{Option, some, none}
use Rattle.field.specs.Test.{need, given}
use Rattle.page.specs.Page.{entries}
use Rattle.page.specs.Pages.{page}
use Rattle.tree.specs.Answer.{Found, missing, found, last_not_above, readable, in_leaf, down, look_up}
use Rattle.store.specs.Calls.{Lent, lent, Left, refused, pages_sized, two_sized, known, answered}
use Rattle.store.specs.Calls as Calls
use Rattle.promise.specs.Promise.{Alike, Rests}

-- a page number, 0 where there is none
or-zero : Option ℕ → ℕ
or-zero none = 0
or-zero (some p) = p

module _ (key : ℕ) (w w' : List ℕ) where
  -- the way on from a page rests on that page
  same-down : (p : ℕ) (next : ℕ → Found) → page p w' ≡ page p w → down key p w' next ≡ down key p w next
  unfolding down readable
  same-down p next e = rw e

  same-leaf : (p : ℕ) → page p w' ≡ page p w → in_leaf key p w' ≡ in_leaf key p w
  unfolding in_leaf readable
  same-leaf p e = rw e

-- and on what is done at the one page below
next-given : (o : Option ℕ) (f g : ℕ → Found) → ((q : ℕ) → o ≡ some q → f q ≡ g q) → given o (missing 15) f ≡ given o (missing 15) g
unfolding given
next-given none f g h = refl
next-given (some q) f g h = h q refl

next_down : (key p : ℕ) (w : List ℕ) (f g : ℕ → Found) → ((q : ℕ) → last_not_above key none (entries (page p w)) ≡ some q → f q ≡ g q)
    → down key p w f ≡ down key p w g
unfolding down
next_down key p w f g h = ap (need (readable p w) (missing 3)) (next-given (last_not_above key none (entries (page p w))) f g h)

-- the base page and the leaf on the way down
base_on : (key : ℕ) (w : List ℕ) → ℕ
base_on key w = or-zero (last_not_above key none (entries (page 0 w)))

leaf_on : (key : ℕ) (w : List ℕ) → ℕ
leaf_on key w = or-zero (last_not_above key none (entries (page (base_on key w) w)))

or-zero-some : (o : Option ℕ) (q : ℕ) → o ≡ some q → or-zero o ≡ q
unfolding or-zero
or-zero-some o q e = rw e

base_on_lem : (key q : ℕ) (w : List ℕ) → last_not_above key none (entries (page 0 w)) ≡ some q → base_on key w ≡ q
unfolding base_on
base_on_lem key q w e = or-zero-some (last_not_above key none (entries (page 0 w))) q e

leaf-on : (key q m : ℕ) (w : List ℕ) → base_on key w ≡ q → last_not_above key none (entries (page q w)) ≡ some m → leaf_on key w ≡ m
unfolding leaf_on
leaf-on key q m w i e = rw i (or-zero-some (last_not_above key none (entries (page q w))) m e)

same-look : (key : ℕ) (w w' : List ℕ) → page 0 w' ≡ page 0 w → page (base_on key w) w' ≡ page (base_on key w) w → page (leaf_on key w) w' ≡ page (leaf_on key w) w
    → look_up key w' ≡ look_up key w
unfolding look_up
same-look key w w' r b p =
    same-down key w w' 0 _ r
    ∙ next_down key 0 w _ _ (λ q e.
    let i : base_on key w ≡ q = base_on_lem key q w e in
    same-down key w w' q _ (subst (λ (x : ℕ). page x w' ≡ page x w) i b)
    ∙ next_down key q w _ _ (λ m k. same-leaf key w w' m (subst (λ (x : ℕ). page x w' ≡ page x w) (leaf-on key q m w i k) p)))

-- ---- the call

alike-refused : (k r : ℕ) (d e : Lent) → Alike (refused k r d) (refused k r e)
unfolding refused
alike-refused k r d e = record { reply = refl; values = refl }

alike-test : (b : Bool) (x x' y y' : Left) → Alike x x' → Alike y y' → Alike (need b x y) (need b x' y')
unfolding need
alike-test true x x' y y' h k = k
alike-test false x x' y y' h k = h

alike-value : {A : Type 0} (o : Option A) (x x' : Left) (f f' : A → Left) → Alike x x' → ((a : A) → Alike (f a) (f' a)) → Alike (given o x f) (given o x' f')
unfolding given
alike-value none x x' f f' h k = h
alike-value (some a) x x' f f' h k = k a

alike-answered : (d e : Lent) (x : Found) → Alike (answered d x) (answered e x)
unfolding answered refused
alike-answered d e (missing r) = record { reply = refl; values = refl }
alike-answered d e (found v) = record { reply = refl; values = refl }

-- the same lengths, log and numbers, and work pages that are looked up alike
find-alike : (key : ℕ) (w : List ℕ) (d : Lent) → length w ≡ length d.work → look_up key w ≡ look_up key d.work
    → Alike (Calls.find key (lent d.used d.forced w d.store d.log d.bytes)) (Calls.find key d)
unfolding Calls.find two_sized pages_sized known
find-alike key w d n e =
    rw (n, e)
    (alike-test _ _ _ _ _ (alike-refused 10 1 _ d)
    (alike-value _ _ _ _ _ (alike-refused 10 2 _ d) (λ g.
    alike-test _ _ _ _ _ (alike-refused 10 9 _ d) (alike-answered _ d (look_up key d.work)))))

pub find-rests : (key : ℕ) (d : Lent) → Rests key d
find-rests key d =
    record {
      base = base_on key d.work;
      leaf = leaf_on key d.work;
      enough = λ w n r b p. find-alike key w d n (same-look key d.work w r b p);
    }
