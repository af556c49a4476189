-- Pages changed one after the other, for any pages of the 64 that differ and any change of a page: what becomes of each page, and that all can be
-- changed where each can. Then a record's pages: one that changes no page, and one that changes one. Assumes nothing.
use Prim.Native.Nat.{ℕ, ◌<◌}
use native.Mathlib.Decide.{ℕ_discrete}
use mathlib.Core.Path.{◌≡◌, refl, sym, ap, ◌∙◌}
use mathlib.Core.Logic.{◌⊎◌, inl, inr, ⊎_elim}
use mathlib.Core.Bool.{Bool, true, false, false≢true}
use mathlib.Core.List.{List, [], ◌∷◌}
use mathlib.Core.Option.{Option, some, none, some-injective}
use lib.ListN.{length}
use lib.Dec.{eqb, leb}
use borrow.Author.Tests.{eqb-true, eq-eqb, ne_eqb}
use Rattle.field.specs.Test.{pick, bind, there}
use Rattle.field.specs.Bytes.{Bytes}
use Rattle.field.proofs.Test.{pick_true, pick-false, pick-or, pick_second, bind-some, bind-intro}
use Rattle.page.specs.Page.{number}
use Rattle.page.specs.Pages.{page, put_page}
use Rattle.page.proofs.Pages.{bytes-page, bytes-put_page, length-put_page, page-put_page-same, page-put_page-other}
use Rattle.logs.specs.Record.{Rec}
use Rattle.logs.specs.Log.{listed}
use Rattle.unit.specs.Next.{targets, change, change_again, changed_at, apply, repeat}
use Rattle.unit.specs.Made.{at_page}

-- ---- a page among others

listed_here : (p : ℕ) (ps : List ℕ) → listed p (p ∷ ps) ≡ true
unfolding listed
listed_here p ps = pick_true (eqb p p) true (listed p ps) (eq-eqb p p refl)

listed-behind : (p q : ℕ) (ps : List ℕ) → listed p ps ≡ true → listed p (q ∷ ps) ≡ true
unfolding listed
listed-behind p q ps i = pick_second (eqb p q) (listed p ps) i

listed-other : (p q : ℕ) (ps : List ℕ) → (p ≡ q → ⊥) → listed p (q ∷ ps) ≡ listed p ps
unfolding listed
listed-other p q ps ne = pick-false (eqb p q) true (listed p ps) (ne_eqb p q ne)

pub listed-cases : (p q : ℕ) (ps : List ℕ) → listed p (q ∷ ps) ≡ true → (p ≡ q) ⊎ (listed p ps ≡ true)
unfolding listed
listed-cases p q ps i = ⊎_elim (λ (e : eqb p q ≡ true). inl (eqb-true p q e)) (λ (e : listed p ps ≡ true). inr e) (pick-or (eqb p q) (listed p ps) i)

pub listed-none : (p : ℕ) → listed p [] ≡ true → ⊥
unfolding listed
listed-none p i = false≢true i

pub listed-one : (p q : ℕ) → listed p (q ∷ []) ≡ true → p ≡ q
listed-one p q i = ⊎_elim (λ (e : p ≡ q). e) (λ (e : listed p [] ≡ true). absurd (listed-none p e)) (listed-cases p q [] i)

-- pages of the 64, each once
abbrev pub Once : List ℕ → Type 0
Once [] = Unit {0}
Once (p ∷ ps) = (p < 64) × (listed p ps ≡ false) × Once ps

pub once-one : (p : ℕ) → p < 64 → Once (p ∷ [])
unfolding listed
once-one p h = (h, refl, tt)

pub once-small : (ps : List ℕ) (p : ℕ) → Once ps → listed p ps ≡ true → p < 64
once-small [] p o i = absurd (listed-none p i)
once-small (q ∷ ps) p o i =
    ⊎_elim (λ (e : p ≡ q). rw e o.0) (λ (e : listed p ps ≡ true). once-small ps p o.2 e) (listed-cases p q ps i)

-- ---- what becomes of one page

module _ (ps : List ℕ) (f : (p : ℕ) → List ℕ → Option (List ℕ)) (p : ℕ) (pg : List ℕ) where
  pub at_listed : listed p ps ≡ true → at_page ps f p pg ≡ f p pg
  unfolding at_page
  at_listed i = pick_true (listed p ps) (f p pg) (some pg) i

  pub at_other : listed p ps ≡ false → at_page ps f p pg ≡ some pg
  unfolding at_page
  at_other i = pick-false (listed p ps) (f p pg) (some pg) i

  at-behind : (q : ℕ) → (p ≡ q → ⊥) → at_page (q ∷ ps) f p pg ≡ at_page ps f p pg
  unfolding at_page
  at-behind q ne = rw (listed-other p q ps ne)

  -- it stays, or it is one of these and f has made it
  pub at-cases : (pg' : List ℕ) → at_page ps f p pg ≡ some pg' → (pg' ≡ pg) ⊎ ((listed p ps ≡ true) × (f p pg ≡ some pg'))
  at-cases pg' e = by-list (listed p ps) refl
    where
      by-list : (b : Bool) → listed p ps ≡ b → (pg' ≡ pg) ⊎ ((listed p ps ≡ true) × (f p pg ≡ some pg'))
      by-list true i = inr (i, sym (at_listed i) ∙ e)
      by-list false i = inl (sym (some-injective pg pg' (sym (at_other i) ∙ e)))

-- ---- what becomes of all

-- f makes 256 bytes of each of these pages of v, where it makes anything
abbrev pub Makes : (f : (p : ℕ) → List ℕ → Option (List ℕ)) → (ps v : List ℕ) → Type 0
Makes f ps v = (p : ℕ) (pg : List ℕ) → listed p ps ≡ true → f p (page p v) ≡ some pg → length pg ≡ 256

-- w is v with these pages changed, each by itself
pub record Pagewise (f : (p : ℕ) → List ℕ → Option (List ℕ)) (ps v w : List ℕ) : Type 0 where
  pub whole : length w ≡ 16384
  pub each : (p : ℕ) → p < 64 → at_page ps f p (page p v) ≡ some (page p w)

-- page q of v replaced by pg, the pages ps to come: these are as they were
record Replaced (f : (p : ℕ) → List ℕ → Option (List ℕ)) (q : ℕ) (ps v pg : List ℕ) : Type 0 where
  whole : length (put_page q pg v) ≡ 16384
  same : page q (put_page q pg v) ≡ pg
  other : (p : ℕ) → p < 64 → (p ≡ q → ⊥) → page p (put_page q pg v) ≡ page p v
  next : (p : ℕ) → listed p ps ≡ true → page p (put_page q pg v) ≡ page p v
  makes : Makes f ps (put_page q pg v)

module _ (f : (p : ℕ) → List ℕ → Option (List ℕ)) where
  replaced : (q : ℕ) (ps v pg : List ℕ) → Once (q ∷ ps) → length v ≡ 16384 → Makes f (q ∷ ps) v → f q (page q v) ≡ some pg → Replaced f q ps v pg
  replaced q ps v pg o long m e =
      record {
        whole = length-put_page q v long o.0 pg is-long;
        same = page-put_page-same q v long o.0 pg is-long;
        other = is-other;
        next = is-next;
        makes = λ p x i h. m p x (listed-behind p q ps i) (rw (is-next p i) at h);
      }
    where
      is-long : length pg ≡ 256
      is-long = m q pg (listed_here q ps) e

      is-other : (p : ℕ) → p < 64 → (p ≡ q → ⊥) → page p (put_page q pg v) ≡ page p v
      is-other p h ne = page-put_page-other q v long o.0 pg is-long p h ne

      is-next : (p : ℕ) → listed p ps ≡ true → page p (put_page q pg v) ≡ page p v
      is-next p i = is-other p (once-small ps p o.2 i) (λ z. false≢true (sym o.1 ∙ ap (λ (k : ℕ). listed k ps) (sym z) ∙ i))

  -- each page becomes what f makes of it where it is one of these, else it stays: so it is accepted only where f is on each of them
  pub changed-pages : (ps : List ℕ) → Once ps → (v w : List ℕ) → length v ≡ 16384 → Makes f ps v → changed_at ps f v ≡ some w → Pagewise f ps v w
  unfolding changed_at
  changed-pages [] o v w long m e =
      rw (← (some-injective v w e)) (record { whole = long; each = λ p h. at_other [] f p (page p v) (unfold listed in refl) })
  changed-pages (q ∷ ps) o v w long m e =
      let b = bind-some (f q (page q v)) (λ pg. changed_at ps f (put_page q pg v)) w e in
      let u : List ℕ = put_page q b.from v in
      let y : Replaced f q ps v b.from = replaced q ps v b.from o long m b.was in
      let x : Pagewise f ps u w = changed-pages ps o.2 u w y.whole y.makes b.gives in
      record {
        whole = x.whole;
        each = λ p h.
            elim (ℕ_discrete p q) [
              | yes i ↦ rw i
                  (at_listed (q ∷ ps) f q (page q v) (listed_here q ps) ∙ b.was ∙ ap some (sym y.same) ∙ sym (at_other ps f q (page q u) o.1)
                  ∙ x.each q o.0)
              | no ne ↦ at-behind ps f p (page p v) q ne ∙ ap (at_page ps f p) (sym (y.other p h ne)) ∙ x.each p h
            ];
      }

  -- and it is accepted where f is
  pub changes-pages : (ps : List ℕ) → Once ps → (v : List ℕ) → length v ≡ 16384 → Makes f ps v
      → ((p : ℕ) → listed p ps ≡ true → (pg : List ℕ) × (f p (page p v) ≡ some pg)) → (w : List ℕ) × (changed_at ps f v ≡ some w)
  unfolding changed_at
  changes-pages [] o v long m g = (v, refl)
  changes-pages (q ∷ ps) o v long m g =
      let x = g q (listed_here q ps) in
      let y : Replaced f q ps v x.0 = replaced q ps v x.0 o long m x.1 in
      let z = changes-pages ps o.2 (put_page q x.0 v) y.whole y.makes
      (λ p i. let k = g p (listed-behind p q ps i) in (k.0, ap (f p) (y.next p i) ∙ k.1)) in
      (z.0, bind-intro (f q (page q v)) (λ pg. changed_at ps f (put_page q pg v)) x.0 x.1 ∙ z.1)

  -- pages of bytes stay so
  pub changed-bytes : (ps v w : List ℕ) → ((p : ℕ) (pg pg' : List ℕ) → Bytes pg → f p pg ≡ some pg' → Bytes pg') → Bytes v → changed_at ps f v ≡ some w → Bytes w
  unfolding changed_at
  changed-bytes [] v w h b e = rw (← (some-injective v w e)) b
  changed-bytes (p ∷ ps) v w h b e =
      let x = bind-some (f p (page p v)) (λ pg. changed_at ps f (put_page p pg v)) w e in
      changed-bytes ps (put_page p x.from v) w h (bytes-put_page p x.from v (h p (page p v) x.from (bytes-page p v b) x.was) b) x.gives

  -- of no page, and of one
  pub changed-none : (w : List ℕ) → changed_at [] f w ≡ some w
  unfolding changed_at
  changed-none w = refl

  pub changed-one : (p : ℕ) (w : List ℕ) → changed_at (p ∷ []) f w ≡ bind (f p (page p w)) (λ pg. some (put_page p pg w))
  unfolding changed_at
  changed-one p w = refl

-- ---- a record's pages

-- it repeated on one page: nothing where that has its number or a later one, else its change
module _ (n : ℕ) (r : Rec) (p : ℕ) (pg : List ℕ) where
  pub again-old : leb n (number pg) ≡ true → change_again n r p pg ≡ some pg
  unfolding change_again
  again-old h = pick_true (leb n (number pg)) (some pg) (change n r p pg) h

  pub again-new : leb n (number pg) ≡ false → change_again n r p pg ≡ change n r p pg
  unfolding change_again
  again-new h = pick-false (leb n (number pg)) (some pg) (change n r p pg) h

  pub again-cases : (pg' : List ℕ) → change_again n r p pg ≡ some pg' → (pg' ≡ pg) ⊎ (change n r p pg ≡ some pg')
  again-cases pg' e = by_number (leb n (number pg)) refl
    where
      by_number : (b : Bool) → leb n (number pg) ≡ b → (pg' ≡ pg) ⊎ (change n r p pg ≡ some pg')
      by_number true h = inl (sym (some-injective pg pg' (sym (again-old h) ∙ e)))
      by_number false h = inr (sym (again-new h) ∙ e)

-- and on any page, whether it changes that or not
pub at_again : (n : ℕ) (r : Rec) (p : ℕ) (pg : List ℕ)
    → at_page (targets r) (change_again n r) p pg ≡ pick (leb n (number pg)) (some pg) (at_page (targets r) (change n r) p pg)
unfolding at_page change_again
at_again n r p pg = by_tests (listed p (targets r)) (leb n (number pg))
  where
    by_tests : (a b : Bool) → pick a (pick b (some pg) (change n r p pg)) (some pg) ≡ pick b (some pg) (pick a (change n r p pg) (some pg))
    by_tests true b = unfold pick in refl
    by_tests false true = unfold pick in refl
    by_tests false false = unfold pick in refl

-- it changes no page: they stay
module _ (n : ℕ) (r : Rec) (w : List ℕ) (t : targets r ≡ []) where
  pub apply-stays : apply n r w ≡ some w
  unfolding apply
  apply-stays = rw t (changed-none (change n r) w)

  pub repeat-stays : repeat n r w ≡ some w
  unfolding repeat
  repeat-stays = rw t (changed-none (change_again n r) w)

-- it changes one, page p
module _ (n p : ℕ) (r : Rec) (w : List ℕ) (t : targets r ≡ p ∷ []) where
  pub apply-one : apply n r w ≡ bind (change n r p (page p w)) (λ pg. some (put_page p pg w))
  unfolding apply
  apply-one = rw t (changed-one (change n r) p w)

  pub repeat-one : repeat n r w ≡ bind (change_again n r p (page p w)) (λ pg. some (put_page p pg w))
  unfolding repeat
  repeat-one = rw t (changed-one (change_again n r) p w)

  pub applies : (pg : List ℕ) → change n r p (page p w) ≡ some pg → apply n r w ≡ some (put_page p pg w)
  applies pg e = apply-one ∙ bind-intro (change n r p (page p w)) (λ (x : List ℕ). some (put_page p x w)) pg e

  -- it can be applied where that page can be changed
  pub apply-there : there (apply n r w) ≡ there (change n r p (page p w))
  apply-there = ap there apply-one ∙ there-bind (change n r p (page p w))
    where
      there-bind : (o : Option (List ℕ)) → there (bind o (λ pg. some (put_page p pg w))) ≡ there o
      there-bind none = unfold bind there in refl
      there-bind (some x) = unfold bind there in refl
