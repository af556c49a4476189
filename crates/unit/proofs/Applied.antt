-- What the code makes of one record is what `apply` says. Assumes nothing.
use Prim.Native.Nat.{ℕ, suc, ◌+◌, ◌-◌, ◌*◌, ◌≤◌, ◌<◌}
use native.Mathlib.Nat.{add-sub_cancel_left}
use native.Mathlib.Omega.{arith}
use mathlib.Core.Path.{◌≡◌, refl, sym, ap, ◌∙◌}
use mathlib.Core.Bool.{Bool, true, false, not, false≢true}
use mathlib.Core.List.{List, [], ◌∷◌}
use mathlib.Core.Option.{Option, some, none, some-injective}
use lib.ListN.{length, take, drop, get_or}
use lib.Seq.{take-length}
use lib.Dec.{eqb, leb}
use borrow.Author.Tests.{leb-true, eq-eqb, ne_eqb, le-leb, lt-leb, not-true, not-false}
use Rattle.field.specs.Test.{both, all, pick, given, when, there}
use Rattle.field.specs.Bytes.{part, same, le4}
use Rattle.field.proofs.Test.{both-1, both-2, both_true, both_false, both_end, all_head, all_tail, all_one, all_true, all-false, pick_true, pick-false}
use Rattle.field.proofs.Part.{split}
use Rattle.field.proofs.Same.{same-eq}
use Rattle.page.specs.Page.{rows_of, joined, key_of, to_page, ascend, ascend_records, count, rows, entries, records, is_base, is_leaf, is_empty}
use Rattle.page.specs.Change.{above, emptied, appended, has, removed, redirected}
use Rattle.page.specs.Pages.{page, put_page}
use Rattle.page.specs.Results.{made_empty, made_longer, made_pointing, made_shorter}
use Rattle.page.proofs.Rows.{length-rows_of, length-rows, joined-rows_of, key_row}
use Rattle.page.proofs.Turns.{rows_next}
use Rattle.page.proofs.Order.{ascend-facts}
use Rattle.page.proofs.Region.{base-whole, leaf-whole}
use Rattle.page.proofs.Changes.{leaf-takes, pick_takes, base-room, emptied-at, appended-at, redirected-at, removed-at}
use Rattle.page.proofs.Pages.{lent-page}
use Rattle.logs.specs.Record.{LO, LI, LM}
use Rattle.unit.specs.Next.{targets, change, apply}
use Rattle.unit.specs.Made.{place_of, Did}
use Rattle.unit.proofs.Pagewise.{applies, apply-there}
use Rattle.unit.proofs.Walk.{base-rows}
use Rattle.unit.proofs.Entries.{place-facts, place_none, place-has, place_inside}

-- ---- a change that is refused, and one that is made

pub did_none : (o : Option (List ℕ)) (w : List ℕ) → o ≡ none → Did o w false w
unfolding there given
did_none o w e = record { said = rw e; left = rw e }

pub did-some : (o : Option (List ℕ)) (w v x : List ℕ) → o ≡ some x → v ≡ x → Did o w true v
unfolding there given
did-some o w v x e h = record { said = rw e; left = rw e h }

-- where a test says whether a change can be made, and it cannot
pub did-not : (o : Option (List ℕ)) (w : List ℕ) (z : Bool) → z ≡ there o → not z ≡ true → Did o w false w
did-not o w z e h = did_none o w (there-none o (sym e ∙ not-true z h))
  where
    there-none : (o : Option (List ℕ)) → there o ≡ false → o ≡ none
    there-none none q = refl
    there-none (some x) q = absurd (false≢true (sym (unfold there in q)))

there-when : {A : Type 0} (b : Bool) (x : A) → there (when b x) ≡ b
unfolding there when
there-when true x = refl
there-when false x = refl

-- ---- LO

-- of all records of a leaf it can always be made
pub out-own : (w : List ℕ) (org n : ℕ) → is_leaf (page org w) ≡ true → (v : List ℕ) → v ≡ put_page org (made_empty n (page org w)) w
    → (dest : ℕ) → apply n (LO org dest (records (page org w))) w ≡ some v
unfolding targets change
out-own w org n h v g dest =
    applies n org (LO org dest (records (page org w))) w refl (made_empty n (page org w)) (emptied-at n (records (page org w)) (page org w) h refl)
    ∙ ap some (sym g)

pub not-leaf! : (z : Bool) (pg rs : List ℕ) → z ≡ is_leaf pg → not z ≡ true → false ≡ both (is_leaf pg) (same (joined (records pg)) rs)
not-leaf! z pg rs e h = sym (both_false _ _ (sym e ∙ not-true z h))

pub leaf-same! : (z r : Bool) (c : ℕ) (pg rs : List ℕ) → z ≡ is_leaf pg → not z ≡ false → c ≡ count pg → r ≡ same (take (16 + 16 * c - 16) (drop 16 pg)) rs
    → r ≡ both (is_leaf pg) (same (joined (records pg)) rs)
unfolding rows
leaf-same! z r c pg rs e h g f =
    sym (both_true _ _ (sym e ∙ not-false z h) ∙ rw (joined-rows_of 16 (count pg) (drop 16 pg), ← g, f, add-sub_cancel_left 16 (16 * c)))

pub whole-leaf : (z : Bool) (pg : List ℕ) → z ≡ is_leaf pg → not z ≡ false → length pg ≡ 256
whole-leaf z pg e h = leaf-whole pg (sym e ∙ not-false z h)

pub room-leaf : (z : Bool) (c : ℕ) (pg : List ℕ) → c ≡ count pg → z ≡ is_leaf pg → not z ≡ false → 16 + 16 * c ≤ length pg
room-leaf z c pg g e h = let t = leaf-takes pg (sym e ∙ not-false z h) in omega (arith, t.whole, t.few)

joined-all : (k : ℕ) (rs : List ℕ) → length rs ≡ 16 * k → joined (rows_of 16 k rs) ≡ rs
joined-all k rs e = joined-rows_of 16 k rs ∙ rw (← e) (take-length rs)

module _ (w : List ℕ) (org n k : ℕ) (rs : List ℕ) (long : length rs ≡ 16 * k) (z : Bool)
    (e : z ≡ both (is_leaf (take (256 * org + 256 - 256 * org) (drop (256 * org) w))) (same (joined (records (take (256 * org + 256 - 256 * org) (drop (256 * org) w)))) rs)) where
  tested : z ≡ both (is_leaf (page org w)) (same (joined (records (page org w))) (joined (rows_of 16 k rs)))
  tested = e ∙ rw (lent-page org w, joined-all k rs long)

  pub out-leaf : not z ≡ false → is_leaf (page org w) ≡ true
  out-leaf h = both-1 _ _ (sym tested ∙ not-false z h)

  pub out-no : not z ≡ true → (dest : ℕ) → Did (apply n (LO org dest (rows_of 16 k rs)) w) w false w
  unfolding targets change emptied
  out-no h dest = did-not _ w z (tested ∙ sym (apply-there n org (LO org dest (rows_of 16 k rs)) w refl ∙ there-when _ _)) h

  pub out-done : not z ≡ false → (v : List ℕ) → ((dest : ℕ) → apply n (LO org dest (records (page org w))) w ≡ some v)
      → (dest : ℕ) → Did (apply n (LO org dest (rows_of 16 k rs)) w) w true v
  unfolding targets change
  out-done h v g dest =
      let q : joined (records (page org w)) ≡ joined (rows_of 16 k rs) = same-eq _ _ (both-2 _ _ (sym tested ∙ not-false z h)) in
      let r : emptied n (rows_of 16 k rs) (page org w) ≡ some (made_empty n (page org w)) = emptied-at n (rows_of 16 k rs) (page org w) (out-leaf h) q in
      did-some _ w v _ (applies n org (LO org dest (rows_of 16 k rs)) w refl (made_empty n (page org w)) r)
      (sym (some-injective _ v (sym (out-own w org n (out-leaf h) _ refl dest) ∙ g dest)))

-- ---- LI

pub open-empty! : (z : Bool) (pg : List ℕ) → z ≡ is_empty pg → z ≡ true → true ≡ pick (is_empty pg) true (is_leaf pg)
open-empty! z pg e h = sym (pick_true (is_empty pg) true (is_leaf pg) (sym e ∙ h))

pub open-leaf! : (z r : Bool) (pg : List ℕ) → z ≡ is_empty pg → z ≡ false → r ≡ is_leaf pg → r ≡ pick (is_empty pg) true (is_leaf pg)
open-leaf! z r pg e h f = f ∙ sym (pick-false (is_empty pg) true (is_leaf pg) (sym e ∙ h))

above-last : (lo : ℕ) (rs : List (List ℕ)) → 0 < length rs → above lo rs ≡ key_of (get_or rs (length rs - 1) []) + 1
unfolding above
above-last lo [] h = absurd (let x : ⊥ = omega arith in x)
above-last lo (r ∷ []) h = refl
above-last lo (r ∷ s ∷ rs) h =
    let z : length (r ∷ s ∷ rs) - 1 ≡ suc (length (s ∷ rs) - 1) = omega arith in
    rw z (above-last (key_of r + 1) (s ∷ rs) (omega arith))

pub after-none! : (n : ℕ) (pg : List ℕ) → n ≡ count pg → n ≡ 0 → 0 ≡ above 0 (records pg)
unfolding rows rows_of above
after-none! n pg e h = let z : count pg ≡ 0 = sym e ∙ h in rw z

pub after-last! : (n k : ℕ) (pg : List ℕ) → n ≡ count pg → (n ≡ 0 → ⊥) → k ≡ key_of (get_or (records pg) (n - 1) []) → k + 1 ≡ above 0 (records pg)
after-last! n k pg e h f =
    let l : length (records pg) ≡ n = length-rows 16 pg ∙ sym e in
    let m : 0 < length (records pg) = split 0 n (λ a. omega arith) (λ a. absurd (h (omega arith))) in
    sym (above-last 0 (records pg) m ∙ rw (l, ← f))

-- rows in order follow a key where their first does
ascend-first : (a b lo : ℕ) (r : List ℕ) (rs : List (List ℕ)) → ascend a b 0 (r ∷ rs) ≡ true → ascend a b lo (r ∷ rs) ≡ leb lo (key_of r)
unfolding ascend
ascend-first a b lo r rs e =
    let f = ascend-facts a b 0 r rs e in
    rw (eq-eqb (get_or r 0 0) a f.one, eq-eqb (get_or r 1 0) b f.two, f.after) (unfold both in both_end (leb lo (key_of r)))

ascend-follow : (lo k : ℕ) (rs : List ℕ) → 1 ≤ k → ascend_records 0 (rows_of 16 k rs) ≡ true → ascend_records lo (rows_of 16 k rs) ≡ leb lo (le4 rs 2)
ascend-follow lo k rs h e =
    let q : rows_of 16 k rs ≡ part 0 16 rs ∷ rows_of 16 (k - 1) (drop (0 + 16) rs) = rows_next 16 k 0 rs h in
    let r : ascend_records 0 (part 0 16 rs ∷ rows_of 16 (k - 1) (drop (0 + 16) rs)) ≡ true = rw q at e in
    rw q (ascend-first 114 99 lo (part 0 16 rs) (rows_of 16 (k - 1) (drop (0 + 16) rs)) r) ∙ ap (leb lo) (key_row 16 0 rs (omega arith))

-- the test of an LI: its page, the room there, its keys
abbrev test : (k : ℕ) (rs pg : List ℕ) → Bool
test k rs pg = all (pick (is_empty pg) true (is_leaf pg) ∷ leb (length (records pg) + k) 15 ∷ ascend_records (above 0 (records pg)) (rows_of 16 k rs) ∷ [])

module _ (z : Bool) (k : ℕ) (rs pg : List ℕ) (e : z ≡ pick (is_empty pg) true (is_leaf pg)) where
  pub takes-page! : not z ≡ true → false ≡ test k rs pg
  takes-page! h = sym (all-false _ _ (sym e ∙ not-true z h))

  pub takes-open : not z ≡ false → pick (is_empty pg) true (is_leaf pg) ≡ true
  takes-open h = sym e ∙ not-false z h

  pub takes_whole : not z ≡ false → length pg ≡ 256
  takes_whole h = (pick_takes pg (takes-open h)).whole

  module _ (h : not z ≡ false) (c : ℕ) (g : c ≡ count pg) where
    pub takes-few : c ≤ 15
    takes-few = omega (arith, (pick_takes pg (takes-open h)).few)

    fits : test k rs pg ≡ all (leb (c + k) 15 ∷ ascend_records (above 0 (records pg)) (rows_of 16 k rs) ∷ [])
    fits = all_true _ _ (sym e ∙ not-false z h) ∙ rw (length-rows 16 pg, g)

    pub takes-room! : 15 < c + k → false ≡ test k rs pg
    takes-room! m = sym (fits ∙ all-false _ _ (lt-leb (c + k) 15 m))

    pub takes-keys! : (lo f : ℕ) → lo ≡ above 0 (records pg) → f ≡ le4 rs 2 → c + k ≤ 15 → 1 ≤ k → ascend_records 0 (rows_of 16 k rs) ≡ true → leb lo f ≡ test k rs pg
    takes-keys! lo f a b m more t =
        sym (fits ∙ all_true _ _ (le-leb (c + k) 15 m) ∙ all_one (ascend_records (above 0 (records pg)) (rows_of 16 k rs)) ∙ rw (← a, b) (ascend-follow lo k rs more t))

module _ (w : List ℕ) (dest k : ℕ) (rs : List ℕ) where
  in-there : (n org back : ℕ) → there (apply n (LI org dest back (rows_of 16 k rs)) w) ≡ test k rs (page dest w)
  unfolding targets change appended
  in-there n org back = apply-there n dest (LI org dest back (rows_of 16 k rs)) w refl ∙ there-when _ _ ∙ rw (length-rows_of 16 k rs)

  pub in-can : (z : Bool) → z ≡ test k rs (take (256 * dest + 256 - 256 * dest) (drop (256 * dest) w))
      → (n org back : ℕ) → z ≡ there (apply n (LI org dest back (rows_of 16 k rs)) w)
  in-can z e n org back = e ∙ rw (lent-page dest w) (sym (in-there n org back))

  module _ (z : Bool) (e : (n org back : ℕ) → z ≡ there (apply n (LI org dest back (rows_of 16 k rs)) w)) (h : not z ≡ false) where
    passed : test k rs (page dest w) ≡ true
    passed = sym (in-there 0 0 0) ∙ sym (e 0 0 0) ∙ not-false z h

    pub in-open : pick (is_empty (page dest w)) true (is_leaf (page dest w)) ≡ true
    in-open = all_head _ _ passed

    pub in-room : count (page dest w) + k ≤ 15
    in-room = omega (arith, length-rows 16 (page dest w), leb-true (length (records (page dest w)) + k) 15 (all_head _ _ (all_tail _ _ passed)))

    pub in-done : (n : ℕ) (v : List ℕ) → v ≡ put_page dest (made_longer n (rows_of 16 k rs) (page dest w)) w → (org back : ℕ)
        → Did (apply n (LI org dest back (rows_of 16 k rs)) w) w true v
    unfolding targets change
    in-done n v g org back =
        let m : length (records (page dest w)) + length (rows_of 16 k rs) ≤ 15 = omega (arith, in-room, length-rows 16 (page dest w), length-rows_of 16 k rs) in
        let f : ascend_records (above 0 (records (page dest w))) (rows_of 16 k rs) ≡ true = all_head _ _ (all_tail _ _ (all_tail _ _ passed)) in
        did-some _ w v _
        (applies n dest (LI org dest back (rows_of 16 k rs)) w refl (made_longer n (rows_of 16 k rs) (page dest w))
        (appended-at n (rows_of 16 k rs) (page dest w) in-open m f)) g

-- ---- LM

-- the test of an LM: a base page that has the entry and, where that is removed, another
abbrev allows : (t : Bool) (key old : ℕ) (pg : List ℕ) → Bool
allows t key old pg = all (is_base pg ∷ has key old (entries pg) ∷ pick t (leb 2 (length (entries pg))) true ∷ [])

allows-there : (t : Bool) (n key old new : ℕ) (pg : List ℕ) → there (pick t (removed n key old pg) (redirected n key old new pg)) ≡ allows t key old pg
unfolding pick removed redirected
allows-there true n key old new pg = there-when _ _
allows-there false n key old new pg = there-when _ _ ∙ unfold all both in (rw (both_end (has key old (entries pg))))

module _ (w : List ℕ) (base old new key : ℕ) where
  modify-there : (n : ℕ) → there (apply n (LM base old new key) w) ≡ allows (eqb new 0) key old (page base w)
  unfolding targets change
  modify-there n = apply-there n base (LM base old new key) w refl ∙ allows-there (eqb new 0) n key old new (page base w)

  module _ (z : Bool) (e : z ≡ is_base (take (256 * base + 256 - 256 * base) (drop (256 * base) w))) where
    is : z ≡ is_base (page base w)
    is = e ∙ rw (lent-page base w)

    pub can-page : not z ≡ true → (n : ℕ) → false ≡ there (apply n (LM base old new key) w)
    can-page h n = sym (modify-there n ∙ all-false _ _ (sym is ∙ not-true z h))

    pub can-base : not z ≡ false → is_base (page base w) ≡ true
    can-base h = sym is ∙ not-false z h

    module _ (t : not z ≡ false) (c i : ℕ) (g : c ≡ count (page base w)) (f : i ≡ place_of key old (entries (page base w))) where
      long : length (entries (page base w)) ≡ c
      long = length-rows 8 (page base w) ∙ sym g

      pub can-missing : i ≡ c → (n : ℕ) → false ≡ there (apply n (LM base old new key) w)
      can-missing h n =
          let q : has key old (entries (page base w)) ≡ false = place_none key old (entries (page base w)) (sym f ∙ h ∙ sym long) in
          sym (modify-there n ∙ all_true _ _ (can-base t) ∙ all-false _ _ q)

      module _ (ne : i ≡ c → ⊥) where
        there-is : has key old (entries (page base w)) ≡ true
        there-is = place-has key old (entries (page base w)) (λ q. ne (f ∙ q ∙ long))

        last-test : (n : ℕ) → there (apply n (LM base old new key) w) ≡ pick (eqb new 0) (leb 2 (length (entries (page base w)))) true
        last-test n = modify-there n ∙ all_true _ _ (can-base t) ∙ all_true _ _ there-is ∙ all_one _

        pub can-point : (new ≡ 0 → ⊥) → (n : ℕ) → true ≡ there (apply n (LM base old new key) w)
        can-point h n = sym (last-test n ∙ pick-false _ _ _ (ne_eqb new 0 h))

        pub can-remove : new ≡ 0 → (n : ℕ) → leb 2 c ≡ there (apply n (LM base old new key) w)
        can-remove h n = sym (last-test n ∙ pick_true _ _ _ (eq-eqb new 0 h) ∙ rw long)

  -- the change itself
  module _ (z : Bool) (e : (n : ℕ) → z ≡ there (apply n (LM base old new key) w)) (t : not z ≡ false) where
    allowed : allows (eqb new 0) key old (page base w) ≡ true
    allowed = sym (modify-there 0) ∙ sym (e 0) ∙ not-false z t

    pub modify-base : is_base (page base w) ≡ true
    modify-base = all_head _ _ allowed

    pub modify-others : new ≡ 0 → 2 ≤ count (page base w)
    modify-others h =
        let q : leb 2 (length (entries (page base w))) ≡ true = sym (pick_true (eqb new 0) _ true (eq-eqb new 0 h)) ∙ all_head _ _ (all_tail _ _ (all_tail _ _ allowed)) in
        omega (arith, length-rows 8 (page base w), leb-true 2 (length (entries (page base w))) q)

    module _ (i : ℕ) (f : i ≡ place_of key old (entries (page base w))) where
      at : place_of key old (entries (page base w)) < length (entries (page base w))
      at = place_inside key old (entries (page base w)) (all_head _ _ (all_tail _ _ allowed))

      pub modify-inside : i < count (page base w)
      modify-inside = omega (arith, at, length-rows 8 (page base w))

      found : (key_of (get_or (entries (page base w)) i []) ≡ key) × (to_page (get_or (entries (page base w)) i []) ≡ old)
      found = rw f (place-facts key old (entries (page base w)) at)

      pub modify-point : (new ≡ 0 → ⊥) → (n : ℕ) (v : List ℕ) → v ≡ put_page base (made_pointing n i new (page base w)) w → Did (apply n (LM base old new key) w) w true v
      unfolding targets change
      modify-point h n v d =
          let r : redirected n key old new (page base w) ≡ some (made_pointing n i new (page base w)) =
          rw (← found.0, ← found.1) (redirected-at n i (page base w) modify-base modify-inside new) in
          did-some _ w v _
          (applies n base (LM base old new key) w refl (made_pointing n i new (page base w)) (pick-false (eqb new 0) _ _ (ne_eqb new 0 h) ∙ r)) d

      pub modify-remove : new ≡ 0 → (n : ℕ) (v : List ℕ) → v ≡ put_page base (made_shorter n i (page base w)) w → Did (apply n (LM base old new key) w) w true v
      unfolding targets change
      modify-remove h n v d =
          let r : removed n key old (page base w) ≡ some (made_shorter n i (page base w)) =
          rw (← found.0, ← found.1) (removed-at n i (page base w) modify-base modify-inside (modify-others h)) in
          did-some _ w v _
          (applies n base (LM base old new key) w refl (made_shorter n i (page base w)) (pick_true (eqb new 0) _ _ (eq-eqb new 0 h) ∙ r)) d

-- the place of an entry, as the code reads it off the lent page
pub entry-place! : (w : List ℕ) (base old key c i : ℕ) → c ≡ count (page base w)
    → i ≡ place_of key old (rows_of 8 c (drop 16 (take (256 * base + 256 - 256 * base) (drop (256 * base) w)))) → i ≡ place_of key old (entries (page base w))
entry-place! w base old key c i g f = f ∙ rw (base-rows w base c g)

pub entry-room : (w : List ℕ) (base c : ℕ) → c ≡ count (page base w) → is_base (page base w) ≡ true
    → 16 + 8 * c ≤ length (take (256 * base + 256 - 256 * base) (drop (256 * base) w))
entry-room w base c g q = rw (lent-page base w) (omega (arith, base-whole (page base w) q, base-room (page base w) q))
