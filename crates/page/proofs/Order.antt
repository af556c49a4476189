-- Laws of rows in order, and of the entry with a key and a page: it is the only one with its key, so that it is found by its place.
-- Assumes nothing.
use Prim.Native.Nat.{ℕ, zero, suc, ◌+◌, ◌≤◌, ◌<◌}
use native.Mathlib.Nat.{not-suc-le-zero}
use native.Mathlib.Omega.{arith}
use mathlib.Core.Path.{◌≡◌, refl, ap, ◌∙◌}
use mathlib.Core.Bool.{Bool, true, false, false≢true}
use mathlib.Core.List.{List, [], ◌∷◌, ◌++◌}
use lib.ListN.{length, take, drop, get_or, set}
use lib.Dec.{leb}
use borrow.Author.Tests.{eqb-true, leb-true, eq-eqb, ne_eqb, le-leb}
use mathlib.Core.Logic.{inl, inr}
use Rattle.field.specs.Test.{both, pick}
use Rattle.field.specs.Bytes.{put, bytes2}
use Rattle.field.proofs.Test.{both-1, both-2, both-intro, both_false, both-assoc, pick-either, pick-or}
use Rattle.field.proofs.Part.{length-put, get_or-put-before}
use Rattle.field.proofs.Number.{length-bytes2, le4-put-other, le2-put}
use Rattle.page.specs.Page.{key_of, to_page, ascend, pointing}
use Rattle.page.specs.Change.{above, is_entry, has, point_to, without}
use Rattle.page.specs.Each.{Each, nil, cons, Long}

-- ---- rows in order

-- what the order of rows says of the first of them
pub record First (a b lo : ℕ) (r : List ℕ) (rs : List (List ℕ)) : Type 0 where
  pub one : get_or r 0 0 ≡ a
  pub two : get_or r 1 0 ≡ b
  pub low : lo ≤ key_of r
  pub after : ascend a b (key_of r + 1) rs ≡ true

module _ (a b : ℕ) where
  pub ascend-facts : (lo : ℕ) (r : List ℕ) (rs : List (List ℕ)) → ascend a b lo (r ∷ rs) ≡ true → First a b lo r rs
  unfolding ascend
  ascend-facts lo r rs e =
      let e1 = both-2 _ _ e in
      let e2 = both-2 _ _ e1 in
      record {
        one = eqb-true (get_or r 0 0) a (both-1 _ _ e);
        two = eqb-true (get_or r 1 0) b (both-1 _ _ e1);
        low = leb-true lo (key_of r) (both-1 _ _ e2);
        after = both-2 _ _ e2;
      }

  pub ascend-of : (lo : ℕ) (r : List ℕ) (rs : List (List ℕ)) → First a b lo r rs → ascend a b lo (r ∷ rs) ≡ true
  unfolding ascend
  ascend-of lo r rs f =
      both-intro _ _ (eq-eqb (get_or r 0 0) a f.one)
      (both-intro _ _ (eq-eqb (get_or r 1 0) b f.two) (both-intro _ _ (le-leb lo (key_of r) f.low) f.after))

  -- rows that may follow a key may follow a lower one
  pub ascend-lower : (lo lo' : ℕ) (rs : List (List ℕ)) → lo' ≤ lo → ascend a b lo rs ≡ true → ascend a b lo' rs ≡ true
  ascend-lower lo lo' [] h e = unfold ascend in refl
  ascend-lower lo lo' (r ∷ rs) h e =
      let f : First a b lo r rs = ascend-facts lo r rs e in
      ascend-of lo' r rs (record { one = f.one; two = f.two; low = omega (arith, f.low); after = f.after })

  -- n rows, then the rows behind them
  pub ascend-append : (lo : ℕ) (xs ys : List (List ℕ)) → ascend a b lo (xs ++ ys) ≡ both (ascend a b lo xs) (ascend a b (above lo xs) ys)
  unfolding ascend above both
  ascend-append lo [] ys = refl
  ascend-append lo (r ∷ rs) ys = rw (ascend-append (key_of r + 1) rs ys) (simp both-assoc)

  -- no key is below the least that is allowed, and a later key is greater
  pub key-least : (lo i : ℕ) (rs : List (List ℕ)) → ascend a b lo rs ≡ true → i < length rs → lo ≤ key_of (get_or rs i [])
  key-least lo i [] e h = absurd (not-suc-le-zero h)
  key-least lo zero (r ∷ rs) e h = (ascend-facts lo r rs e).low
  key-least lo (suc i) (r ∷ rs) e h =
      let f : First a b lo r rs = ascend-facts lo r rs e in
      omega (arith, f.low, key-least (key_of r + 1) i rs f.after (omega arith))

  pub key-less : (lo i j : ℕ) (rs : List (List ℕ)) → ascend a b lo rs ≡ true → i < j → j < length rs
      → key_of (get_or rs i []) < key_of (get_or rs j [])
  key-less lo i j [] e h k = absurd (not-suc-le-zero k)
  key-less lo i zero (r ∷ rs) e h k = absurd (not-suc-le-zero h)
  key-less lo zero (suc j) (r ∷ rs) e h k = omega (arith, key-least (key_of r + 1) j rs (ascend-facts lo r rs e).after (omega arith))
  key-less lo (suc i) (suc j) (r ∷ rs) e h k = key-less (key_of r + 1) i j rs (ascend-facts lo r rs e).after (omega arith) (omega arith)

  -- a row in order bears the mark
  pub mark-at : (lo i : ℕ) (rs : List (List ℕ)) → ascend a b lo rs ≡ true → i < length rs
      → (get_or (get_or rs i []) 0 0 ≡ a) × (get_or (get_or rs i []) 1 0 ≡ b)
  mark-at lo i [] e h = absurd (not-suc-le-zero h)
  mark-at lo zero (r ∷ rs) e h = let f : First a b lo r rs = ascend-facts lo r rs e in (f.one, f.two)
  mark-at lo (suc i) (r ∷ rs) e h = mark-at (key_of r + 1) i rs (ascend-facts lo r rs e).after (omega arith)

-- where an entry points
pub pointing-at : (from to i : ℕ) (es : List (List ℕ)) → pointing from to es ≡ true → i < length es
    → (from ≤ to_page (get_or es i [])) × (to_page (get_or es i []) ≤ to)
unfolding pointing
pointing-at from to i [] t h = absurd (not-suc-le-zero h)
pointing-at from to zero (e ∷ es) t h =
    (leb-true from (to_page e) (both-1 _ _ t), leb-true (to_page e) to (both-1 _ _ (both-2 _ _ t)))
pointing-at from to (suc i) (e ∷ es) t h = pointing-at from to i es (both-2 _ _ (both-2 _ _ t)) (omega arith)

-- ---- an entry by its key and page

pub entry-facts : (key p : ℕ) (e : List ℕ) → is_entry key p e ≡ true → (key_of e ≡ key) × (to_page e ≡ p)
unfolding is_entry
entry-facts key p e t = (eqb-true (key_of e) key (both-1 _ _ t), eqb-true (to_page e) p (both-2 _ _ t))

pub entry_here : (key p : ℕ) (e : List ℕ) → key_of e ≡ key → to_page e ≡ p → is_entry key p e ≡ true
unfolding is_entry
entry_here key p e f g = both-intro _ _ (eq-eqb (key_of e) key f) (eq-eqb (to_page e) p g)

pub entry_other : (key p : ℕ) (e : List ℕ) → (key_of e ≡ key → ⊥) → is_entry key p e ≡ false
unfolding is_entry
entry_other key p e f = both_false _ _ (ne_eqb (key_of e) key f)

-- the place of an entry that is there
pub record Found (key p : ℕ) (es : List (List ℕ)) : Type 0 where
  pub place : ℕ
  pub inside : place < length es
  pub keyed : key_of (get_or es place []) ≡ key
  pub to : to_page (get_or es place []) ≡ p

pub has-found : (key p : ℕ) (es : List (List ℕ)) → has key p es ≡ true → Found key p es
unfolding has
has-found key p [] t = absurd (false≢true t)
has-found key p (e ∷ es) t = elim (pick-or (is_entry key p e) (has key p es) t) [
  | inl h ↦ record { place = 0; inside = omega arith; keyed = (entry-facts key p e h).0; to = (entry-facts key p e h).1 }
  | inr h ↦ let f : Found key p es = has-found key p es h in
      record { place = suc f.place; inside = omega (arith, f.inside); keyed = f.keyed; to = f.to }
]

module _ (key p : ℕ) where
  pub found-has : (i : ℕ) (es : List (List ℕ)) → i < length es → key_of (get_or es i []) ≡ key → to_page (get_or es i []) ≡ p
      → has key p es ≡ true
  unfolding has pick
  found-has i [] h f g = absurd (not-suc-le-zero h)
  found-has zero (e ∷ es) h f g = rw (entry_here key p e f g)
  found-has (suc i) (e ∷ es) h f g =
      pick-either (λ (t : Bool). t ≡ true) (is_entry key p e) true (has key p es) refl (found-has i es (omega arith) f g)

  module _ (a b : ℕ) where
    -- where all keys are above, the entry is not there
    pub without-absent : (lo : ℕ) (es : List (List ℕ)) → ascend a b lo es ≡ true → key < lo → without key p es ≡ es
    unfolding without
    without-absent lo [] t h = refl
    without-absent lo (e ∷ es) t h =
        let f : First a b lo e es = ascend-facts a b lo e es t in
        rw (entry_other key p e (λ q. omega (arith, f.low)), without-absent (key_of e + 1) es f.after (omega (arith, f.low)))
        (unfold pick in refl)

    pub point_to-absent : (new lo : ℕ) (es : List (List ℕ)) → ascend a b lo es ≡ true → key < lo → point_to key p new es ≡ es
    unfolding point_to
    point_to-absent new lo [] t h = refl
    point_to-absent new lo (e ∷ es) t h =
        let f : First a b lo e es = ascend-facts a b lo e es t in
        rw (entry_other key p e (λ q. omega (arith, f.low)), point_to-absent new (key_of e + 1) es f.after (omega (arith, f.low)))
        (unfold pick in refl)

    -- the entry at the place i, taken out and pointed elsewhere
    pub without_at : (lo i : ℕ) (es : List (List ℕ)) → ascend a b lo es ≡ true → i < length es → key_of (get_or es i []) ≡ key
        → to_page (get_or es i []) ≡ p
        → without key p es ≡ take i es ++ drop (suc i) es
    unfolding without pick
    without_at lo i [] t h f g = absurd (not-suc-le-zero h)
    without_at lo zero (e ∷ es) t h f g =
        let q : ascend a b (key_of e + 1) es ≡ true = (ascend-facts a b lo e es t).after in
        rw (entry_here key p e f g) (without-absent (key_of e + 1) es q (omega arith))
    without_at lo (suc i) (e ∷ es) t h f g =
        let q : ascend a b (key_of e + 1) es ≡ true = (ascend-facts a b lo e es t).after in
        let k : key_of e + 1 ≤ key_of (get_or es i []) = key-least a b (key_of e + 1) i es q (omega arith) in
        rw (entry_other key p e (λ z. omega arith), without_at (key_of e + 1) i es q (omega arith) f g)

    pub point_to-at : (new lo i : ℕ) (es : List (List ℕ)) → ascend a b lo es ≡ true → i < length es → key_of (get_or es i []) ≡ key
        → to_page (get_or es i []) ≡ p
        → point_to key p new es ≡ set es i (put 6 (bytes2 new) (get_or es i []))
    unfolding point_to pick
    point_to-at new lo i [] t h f g = absurd (not-suc-le-zero h)
    point_to-at new lo zero (e ∷ es) t h f g =
        let q : ascend a b (key_of e + 1) es ≡ true = (ascend-facts a b lo e es t).after in
        rw (entry_here key p e f g, point_to-absent new (key_of e + 1) es q (omega arith))
    point_to-at new lo (suc i) (e ∷ es) t h f g =
        let q : ascend a b (key_of e + 1) es ≡ true = (ascend-facts a b lo e es t).after in
        let k : key_of e + 1 ≤ key_of (get_or es i []) = key-least a b (key_of e + 1) i es q (omega arith) in
        rw (entry_other key p e (λ z. omega arith), point_to-at new (key_of e + 1) i es q (omega arith) f g)

-- ---- what the two changes of entries keep

module _ (key old : ℕ) where
  pub each-without : {P : List ℕ → Type 0} {es : List (List ℕ)} → Each P es → Each P (without key old es)
  unfolding without
  each-without nil = nil
  each-without {P} (cons {r} {rs} h q) =
      pick-either (Each P) (is_entry key old r) (without key old rs) (r ∷ without key old rs) (each-without q) (cons h (each-without q))

  pub ascend-without : (a b lo : ℕ) (es : List (List ℕ)) → ascend a b lo es ≡ true → ascend a b lo (without key old es) ≡ true
  unfolding without
  ascend-without a b lo [] t = t
  ascend-without a b lo (e ∷ es) t =
      let f : First a b lo e es = ascend-facts a b lo e es t in
      let r : ascend a b (key_of e + 1) (without key old es) ≡ true = ascend-without a b (key_of e + 1) es f.after in
      pick-either (λ (l : List (List ℕ)). ascend a b lo l ≡ true) (is_entry key old e) (without key old es) (e ∷ without key old es)
      (ascend-lower a b (key_of e + 1) lo (without key old es) (omega (arith, f.low)) r)
      (ascend-of a b lo e (without key old es) (record { one = f.one; two = f.two; low = f.low; after = r }))

  pub pointing-without : (from to : ℕ) (es : List (List ℕ)) → pointing from to es ≡ true → pointing from to (without key old es) ≡ true
  unfolding without pointing
  pointing-without from to [] t = t
  pointing-without from to (e ∷ es) t =
      let t1 = both-2 _ _ t in
      let r : pointing from to (without key old es) ≡ true = pointing-without from to es (both-2 _ _ t1) in
      pick-either (λ (l : List (List ℕ)). pointing from to l ≡ true) (is_entry key old e) (without key old es) (e ∷ without key old es) r
      (both-intro _ _ (both-1 _ _ t) (both-intro _ _ (both-1 _ _ t1) r))

  module _ (new : ℕ) where
    pub length-point_to : (es : List (List ℕ)) → length (point_to key old new es) ≡ length es
    unfolding point_to
    length-point_to [] = refl
    length-point_to (e ∷ es) = ap suc (length-point_to es)

    pub each-point_to : {P : List ℕ → Type 0} {es : List (List ℕ)} → ((e : List ℕ) → P e → P (put 6 (bytes2 new) e)) → Each P es
        → Each P (point_to key old new es)
    unfolding point_to
    each-point_to f nil = nil
    each-point_to {P} f (cons {r} {rs} h q) = cons (pick-either P (is_entry key old r) (put 6 (bytes2 new) r) r (f r h) h) (each-point_to f q)

-- an entry that points elsewhere keeps its length, marks and key
module _ (new : ℕ) (e : List ℕ) (long : length e ≡ 8) where
  fits : 6 + length (bytes2 new) ≤ length e
  fits = omega (arith, length-bytes2 new)

  pub long-pointed : length (put 6 (bytes2 new) e) ≡ 8
  long-pointed = length-put 6 (bytes2 new) e fits ∙ long

  pub key-pointed : key_of (put 6 (bytes2 new) e) ≡ key_of e
  unfolding key_of
  key-pointed = le4-put-other 2 6 (bytes2 new) e (omega arith) fits (inl (omega arith))

  pub mark-pointed : (j : ℕ) → j < 6 → get_or (put 6 (bytes2 new) e) j 0 ≡ get_or e j 0
  mark-pointed j h = get_or-put-before 6 (bytes2 new) e j (omega arith) h

  pub to-pointed : new < 65536 → to_page (put 6 (bytes2 new) e) ≡ new
  unfolding to_page
  to-pointed h = le2-put 6 new e h (omega arith)

module _ (key old new : ℕ) where
  pub ascend-point_to : (a b lo : ℕ) (es : List (List ℕ)) → Each (Long 8) es → ascend a b lo es ≡ true
      → ascend a b lo (point_to key old new es) ≡ true
  unfolding point_to
  ascend-point_to a b lo [] nil t = t
  ascend-point_to a b lo (e ∷ es) (cons h q) t =
      let f : First a b lo e es = ascend-facts a b lo e es t in
      let r : ascend a b (key_of e + 1) (point_to key old new es) ≡ true = ascend-point_to a b (key_of e + 1) es q f.after in
      let k : key_of (put 6 (bytes2 new) e) ≡ key_of e = key-pointed new e h in
      pick-either (λ (x : List ℕ). ascend a b lo (x ∷ point_to key old new es) ≡ true) (is_entry key old e) (put 6 (bytes2 new) e) e
      (ascend-of a b lo (put 6 (bytes2 new) e) (point_to key old new es)
      (record {
        one = mark-pointed new e h 0 (omega arith) ∙ f.one;
        two = mark-pointed new e h 1 (omega arith) ∙ f.two;
        low = omega (arith, f.low);
        after = rw k r;
      }))
      (ascend-of a b lo e (point_to key old new es) (record { one = f.one; two = f.two; low = f.low; after = r }))

  pub pointing-point_to : (from to : ℕ) (es : List (List ℕ)) → Each (Long 8) es → from ≤ new → new ≤ to → new < 65536
      → pointing from to es ≡ true
      → pointing from to (point_to key old new es) ≡ true
  unfolding point_to pointing
  pointing-point_to from to [] nil lo hi small t = t
  pointing-point_to from to (e ∷ es) (cons h q) lo hi small t =
      let t1 = both-2 _ _ t in
      let r : pointing from to (point_to key old new es) ≡ true = pointing-point_to from to es q lo hi small (both-2 _ _ t1) in
      let k : to_page (put 6 (bytes2 new) e) ≡ new = to-pointed new e h small in
      pick-either (λ (x : List ℕ). both (leb from (to_page x)) (both (leb (to_page x) to) (pointing from to (point_to key old new es))) ≡ true)
      (is_entry key old e) (put 6 (bytes2 new) e) e
      (rw k (both-intro _ _ (le-leb from new lo) (both-intro _ _ (le-leb new to hi) r)))
      (both-intro _ _ (both-1 _ _ t) (both-intro _ _ (both-1 _ _ t1) r))
