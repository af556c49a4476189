-- The way down by places: the entries before, at and behind a key's range, and the records below and above a key, are parts of their lists.
-- The laws that end in `!` are for `search`. Assumes nothing.
use Prim.Native.Nat.{ℕ, suc, ◌+◌, ◌-◌, ◌≤◌, ◌<◌}
use native.Mathlib.Nat.{not-suc-le-zero}
use native.Mathlib.Numerals.{add-one}
use native.Mathlib.Omega.{arith}
use mathlib.Core.Path.{◌≡◌, refl, sym, ap, ◌∙◌}
use mathlib.Core.Bool.{true, false}
use mathlib.Core.List.{List, [], ◌∷◌}
use lib.ListN.{length, take, drop, get_or}
use lib.Dec.{ltb}
use borrow.Author.Tests.{lt-ltb, le-ltb, eq-eqb, ne_eqb, leb-true}
use Rattle.field.specs.Test.{there}
use Rattle.field.specs.Bytes.{le4}
use Rattle.field.proofs.Test.{both-1, both-2, pick_true, pick-false}
use Rattle.field.proofs.Part.{split}
use Rattle.page.specs.Page.{rows_of, key_of, ascend}
use Rattle.page.proofs.Rows.{key_row}
use Rattle.page.proofs.Turns.{rows_next, no_rows}
use Rattle.tree.specs.Tree.{lower}
use Rattle.tree.specs.Answer.{record_with}
use Rattle.saving.specs.Save.{lesser, greater, before, through, behind}
use Rattle.saving.specs.Route.{leading}

-- ---- the loop over rows

module _ (key : ℕ) (r : List ℕ) (rs : List (List ℕ)) where
  pub leading-more : key_of r < key → leading key (r ∷ rs) ≡ suc (leading key rs)
  unfolding leading
  leading-more h = pick_true _ _ _ (lt-ltb (key_of r) key h)

  pub leading-stop : key ≤ key_of r → leading key (r ∷ rs) ≡ 0
  unfolding leading
  leading-stop h = pick-false _ _ _ (le-ltb (key_of r) key h)

module _ (key sz n start left at : ℕ) (l : List ℕ)
    (e : leading key (rows_of sz n (drop start l)) ≡ n - left + leading key (rows_of sz left (drop at l))) (few : left ≤ n) where
  pub leading-end! : left ≤ 0 → n ≡ leading key (rows_of sz n (drop start l))
  unfolding leading
  leading-end! h = let z : leading key (rows_of sz left (drop at l)) ≡ 0 = rw (no_rows sz left (drop at l) h) in omega arith

  module _ (k : ℕ) (q : k ≡ le4 l (at + 2)) (wide : 6 ≤ sz) (more : 0 < left) where
    pub leading-here! : key ≤ k → n - left ≡ leading key (rows_of sz n (drop start l))
    leading-here! h =
        let z : leading key (rows_of sz left (drop at l)) ≡ 0 =
        rw (rows_next sz left at l more) (leading-stop key _ _ (rw (key_row sz at l wide, ← q) h)) in
        omega arith

    pub leading-on! : k < key → leading key (rows_of sz n (drop start l)) ≡ n - (left - 1) + leading key (rows_of sz (left - 1) (drop (at + sz) l))
    leading-on! h =
        let z : leading key (rows_of sz left (drop at l)) ≡ suc (leading key (rows_of sz (left - 1) (drop (at + sz) l))) =
        rw (rows_next sz left at l more) (leading-more key _ _ (rw (key_row sz at l wide, ← q) h)) in
        omega arith

-- ---- entries

module _ (key : ℕ) where
  before_here : (e : List ℕ) (es : List (List ℕ)) → lower key es ≡ true → before key (e ∷ es) ≡ []
  unfolding before
  before_here e es t = pick_true _ _ _ t

  before_on : (e : List ℕ) (es : List (List ℕ)) → lower key es ≡ false → before key (e ∷ es) ≡ e ∷ before key es
  unfolding before
  before_on e es t = pick-false _ _ _ t

  through_here : (e : List ℕ) (es : List (List ℕ)) → lower key es ≡ true → through key (e ∷ es) ≡ e
  unfolding through
  through_here e es t = pick_true _ _ _ t

  through-on : (e : List ℕ) (es : List (List ℕ)) → lower key es ≡ false → through key (e ∷ es) ≡ through key es
  unfolding through
  through-on e es t = pick-false _ _ _ t

  behind-here : (e : List ℕ) (es : List (List ℕ)) → lower key es ≡ true → behind key (e ∷ es) ≡ es
  unfolding behind
  behind-here e es t = pick_true _ _ _ t

  behind-on : (e : List ℕ) (es : List (List ℕ)) → lower key es ≡ false → behind key (e ∷ es) ≡ behind key es
  unfolding behind
  behind-on e es t = pick-false _ _ _ t

  last-lower : lower key [] ≡ true
  unfolding lower
  last-lower = refl

  next-lower : (f : List ℕ) (es : List (List ℕ)) → key < key_of f → lower key (f ∷ es) ≡ true
  unfolding lower
  next-lower f es h = lt-ltb key (key_of f) h

  next-not : (f : List ℕ) (es : List (List ℕ)) → key_of f ≤ key → lower key (f ∷ es) ≡ false
  unfolding lower
  next-not f es h = le-ltb key (key_of f) h

  -- the entries before a key's are counted by the keys of those behind the first
  pub before-length : (e : List ℕ) (es : List (List ℕ)) → length (before key (e ∷ es)) ≡ leading (key + 1) es
  before-length e [] = ap length (before_here e [] last-lower) ∙ (unfold leading in refl)
  before-length e (f ∷ es) =
      split key (key_of f)
      (λ (h : key < key_of f). ap length (before_here e (f ∷ es) (next-lower f es h)) ∙ sym (leading-stop (key + 1) f es (omega arith)))
      (λ (h : key_of f ≤ key). ap length (before_on e (f ∷ es) (next-not f es h)) ∙ ap suc (before-length f es) ∙ sym (leading-more (key + 1) f es (omega arith)))

-- the parts of entries: those before the i-th, the i-th, those behind it
pub record Parts (key : ℕ) (es : List (List ℕ)) (i : ℕ) : Type 0 where
  pub inside : i < length es
  pub front : before key es ≡ take i es
  pub here : through key es ≡ get_or es i []
  pub back : behind key es ≡ drop (i + 1) es

module _ (key : ℕ) where
  parts-here : (e : List ℕ) (es : List (List ℕ)) → lower key es ≡ true → Parts key (e ∷ es) 0
  parts-here e es t = record { inside = omega arith; front = before_here key e es t; here = through_here key e es t; back = behind-here key e es t }

  parts-on : (e : List ℕ) (es : List (List ℕ)) (i : ℕ) → lower key es ≡ false → Parts key es i → Parts key (e ∷ es) (suc i)
  parts-on e es i t p =
      record {
        inside = omega (arith, p.inside);
        front = before_on key e es t ∙ ap (λ (l : List (List ℕ)). e ∷ l) p.front;
        here = through-on key e es t ∙ p.here;
        back = behind-on key e es t ∙ p.back ∙ rw (add-one i, add-one (suc i));
      }

  parts-cons : (e : List ℕ) (es : List (List ℕ)) → Parts key (e ∷ es) (length (before key (e ∷ es)))
  parts-cons e [] = rw (before_here key e [] (last-lower key)) (parts-here e [] (last-lower key))
  parts-cons e (f ∷ es) =
      split key (key_of f)
      (λ (h : key < key_of f). let t = next-lower key f es h in rw (before_here key e (f ∷ es) t) (parts-here e (f ∷ es) t))
      (λ (h : key_of f ≤ key). let t = next-not key f es h in
      rw (before_on key e (f ∷ es) t) (parts-on e (f ∷ es) (length (before key (f ∷ es))) t (parts-cons f es)))

  pub parts : (es : List (List ℕ)) (i : ℕ) → i ≡ length (before key es) → 0 < length es → Parts key es i
  parts [] i e h = absurd (not-suc-le-zero h)
  parts (x ∷ es) i e h = rw e (parts-cons x es)

-- ---- records that ascend

module _ (a b key : ℕ) where
  ascend-first : (lo : ℕ) (r : List ℕ) (rs : List (List ℕ)) → ascend a b lo (r ∷ rs) ≡ true → lo ≤ key_of r
  unfolding ascend
  ascend-first lo r rs e = leb-true lo (key_of r) (both-1 _ _ (both-2 _ _ (both-2 _ _ e)))

  ascend-rest : (lo : ℕ) (r : List ℕ) (rs : List (List ℕ)) → ascend a b lo (r ∷ rs) ≡ true → ascend a b (key_of r + 1) rs ≡ true
  unfolding ascend
  ascend-rest lo r rs e = both-2 _ _ (both-2 _ _ (both-2 _ _ e))

  none-lesser : (lo : ℕ) (rs : List (List ℕ)) → ascend a b lo rs ≡ true → key ≤ lo → lesser key rs ≡ []
  unfolding lesser
  none-lesser lo [] e h = refl
  none-lesser lo (r ∷ rs) e h =
      let k : lo ≤ key_of r = ascend-first lo r rs e in
      pick-false _ _ _ (le-ltb (key_of r) key (omega arith)) ∙ none-lesser (key_of r + 1) rs (ascend-rest lo r rs e) (omega arith)

  all-greater : (lo : ℕ) (rs : List (List ℕ)) → ascend a b lo rs ≡ true → key < lo → greater key rs ≡ rs
  unfolding greater
  all-greater lo [] e h = refl
  all-greater lo (r ∷ rs) e h =
      let k : lo ≤ key_of r = ascend-first lo r rs e in
      pick_true _ _ _ (lt-ltb key (key_of r) (omega arith)) ∙ ap (λ (l : List (List ℕ)). r ∷ l) (all-greater (key_of r + 1) rs (ascend-rest lo r rs e) (omega arith))

  none_found : (lo : ℕ) (rs : List (List ℕ)) → ascend a b lo rs ≡ true → key < lo → there (record_with key rs) ≡ false
  unfolding record_with there
  none_found lo [] e h = refl
  none_found lo (r ∷ rs) e h =
      let k : lo ≤ key_of r = ascend-first lo r rs e in
      ap there (pick-false _ _ _ (ne_eqb (key_of r) key (λ z. omega arith))) ∙ none_found (key_of r + 1) rs (ascend-rest lo r rs e) (omega arith)

  -- those below the key are the first ones
  pub lesser-front : (lo : ℕ) (rs : List (List ℕ)) → ascend a b lo rs ≡ true → lesser key rs ≡ take (leading key rs) rs
  unfolding lesser
  lesser-front lo [] e = unfold leading in refl
  lesser-front lo (r ∷ rs) e =
      split (key_of r) key
      (λ (h : key_of r < key). rw (leading-more key r rs h)
      (pick_true _ _ _ (lt-ltb (key_of r) key h) ∙ ap (λ (l : List (List ℕ)). r ∷ l) (lesser-front (key_of r + 1) rs (ascend-rest lo r rs e))))
      (λ (h : key ≤ key_of r). rw (leading-stop key r rs h)
      (pick-false _ _ _ (le-ltb (key_of r) key h) ∙ none-lesser (key_of r + 1) rs (ascend-rest lo r rs e) (omega arith)))

  pub leading-few : (rs : List (List ℕ)) → leading key rs ≤ length rs
  leading-few [] = unfold leading in omega arith
  leading-few (r ∷ rs) =
      split (key_of r) key
      (λ (h : key_of r < key). rw (leading-more key r rs h) (omega (arith, leading-few rs)))
      (λ (h : key ≤ key_of r). rw (leading-stop key r rs h) (omega arith))

  -- what stands behind the first ones, where the key is there and where it is not
  pub record Rest (rs : List (List ℕ)) (k : ℕ) : Type 0 where
    pub high : greater key rs ≡ drop k rs
    pub found : there (record_with key rs) ≡ ltb (leading key rs) k

  module _ (r : List ℕ) (rs : List (List ℕ)) where
    rest-on : (k : ℕ) → key_of r < key → Rest rs k → Rest (r ∷ rs) (suc k)
    unfolding greater record_with
    rest-on k h p =
        record {
          high = pick-false _ _ _ (le-ltb key (key_of r) (omega arith)) ∙ p.high;
          found =
              ap there (pick-false _ _ _ (ne_eqb (key_of r) key (λ z. omega arith))) ∙ p.found
              ∙ split (leading key rs) k
              (λ (g : leading key rs < k). lt-ltb (leading key rs) k g ∙ sym (rw (leading-more key r rs h) (lt-ltb (suc (leading key rs)) (suc k) (omega arith))))
              (λ (g : k ≤ leading key rs). le-ltb (leading key rs) k g ∙ sym (rw (leading-more key r rs h) (le-ltb (suc (leading key rs)) (suc k) (omega arith))));
        }

    rest-none : key < key_of r → ascend a b (key_of r + 1) rs ≡ true → Rest (r ∷ rs) 0
    unfolding greater record_with
    rest-none h e =
        record {
          high = pick_true _ _ _ (lt-ltb key (key_of r) h) ∙ ap (λ (l : List (List ℕ)). r ∷ l) (all-greater (key_of r + 1) rs e (omega arith));
          found =
              ap there (pick-false _ _ _ (ne_eqb (key_of r) key (λ z. omega arith))) ∙ none_found (key_of r + 1) rs e (omega arith)
              ∙ sym (rw (leading-stop key r rs (omega arith)) (le-ltb 0 0 (omega arith)));
        }

    rest-one : key_of r ≡ key → ascend a b (key_of r + 1) rs ≡ true → Rest (r ∷ rs) 1
    unfolding greater record_with there
    rest-one h e =
        record {
          high = pick-false _ _ _ (le-ltb key (key_of r) (omega arith)) ∙ all-greater (key_of r + 1) rs e (omega arith);
          found =
              ap there (pick_true _ _ _ (eq-eqb (key_of r) key h))
              ∙ sym (rw (leading-stop key r rs (omega arith)) (lt-ltb 0 1 (omega arith)));
        }

  pub rest-absent : (lo : ℕ) (rs : List (List ℕ)) → ascend a b lo rs ≡ true
      → (leading key rs < length rs → key_of (get_or rs (leading key rs) []) ≡ key → ⊥) → Rest rs (leading key rs)
  rest-absent lo [] e ne = record { high = unfold greater leading in refl; found = unfold record_with leading there in refl }
  rest-absent lo (r ∷ rs) e ne =
      split (key_of r) key
      (λ (h : key_of r < key). rw (leading-more key r rs h)
      (rest-on r rs (leading key rs) h
      (rest-absent (key_of r + 1) rs (ascend-rest lo r rs e) (λ g q. rw (leading-more key r rs h) at ne (omega arith) q))))
      (λ (h : key ≤ key_of r). rw (leading-stop key r rs h)
      (rest-none r rs
      (split key (key_of r) (λ (g : key < key_of r). g) (λ (g : key_of r ≤ key). absurd (rw (leading-stop key r rs h) at ne (omega arith) (omega arith))))
      (ascend-rest lo r rs e)))

  pub rest-present : (lo : ℕ) (rs : List (List ℕ)) → ascend a b lo rs ≡ true → leading key rs < length rs
      → key_of (get_or rs (leading key rs) []) ≡ key → Rest rs (leading key rs + 1)
  rest-present lo [] e few q = absurd (not-suc-le-zero few)
  rest-present lo (r ∷ rs) e few q =
      split (key_of r) key
      (λ (h : key_of r < key).
      let m = leading-more key r rs h in
      rw (m, add-one (suc (leading key rs)), ← (add-one (leading key rs)))
      (rest-on r rs (leading key rs + 1) h
      (rest-present (key_of r + 1) rs (ascend-rest lo r rs e) (let g : suc (leading key rs) < suc (length rs) = rw m at few in omega arith) (rw m at q))))
      (λ (h : key ≤ key_of r). let m = leading-stop key r rs h in rw m (rest-one r rs (rw m at q) (ascend-rest lo r rs e)))
