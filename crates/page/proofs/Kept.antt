-- The four page changes: what each asks of its page, and that it makes a page in form, stamped, with the rows it should have.
-- Assumes nothing.
use Prim.Native.Nat.{ℕ, ◌+◌, ◌≤◌, ◌<◌}
use native.Mathlib.Nat.{le_trans}
use native.Mathlib.Omega.{arith}
use mathlib.Core.Path.{◌≡◌, refl, ap, ◌∙◌}
use mathlib.Core.Logic.{◌⊎◌, ⊎_elim}
use mathlib.Core.Bool.{true}
use mathlib.Core.List.{List, [], ◌++◌}
use mathlib.Core.Option.{some}
use lib.ListN.{length, drop, get_or, length-append, length-take, length-drop}
use borrow.Author.Tests.{leb-true}
use Rattle.field.specs.Bytes.{zeroes, Bytes, bytes2}
use Rattle.field.proofs.Test.{both-1, both-2, both-intro, all_head, all_tail, pick-or, when-some}
use Rattle.field.proofs.Same.{same-eq}
use Rattle.field.proofs.Zero.{length-zeroes}
use Rattle.field.proofs.Byte.{bytes_drop, bytes-part, bytes-put, bytes-bytes2}
use Rattle.page.specs.Page.{Kind, base, leaf, empty, joined, ascend, ascend_records, count, number, spare, rows, entries, records, made, shaped}
use Rattle.page.specs.Page.{first_leaf, last_leaf, to_leaves, is_base, is_leaf, is_empty}
use Rattle.page.specs.Change.{above, emptied, appended, has, point_to, without, redirected, removed}
use Rattle.page.specs.Each.{Each, nil, Long}
use Rattle.page.proofs.Rows.{each_append, bytes-rows_of}
use Rattle.page.proofs.Order.{ascend-append, Found, has-found, without_at, each-without, ascend-without, pointing-without}
use Rattle.page.proofs.Order.{length-point_to, each-point_to, long-pointed, ascend-point_to, pointing-point_to}
use Rattle.page.proofs.Written.{body, body_of}
use Rattle.page.proofs.Region.{fill-of, base-shaped, base-pointing}
use Rattle.page.proofs.Made.{Shaped, shaped-facts, Fit, fit-base, fit-leaf, fit-empty, Fill, shaped-made, rows_made, spare_made, number-made, length-made, bytes-made, room_joined}

-- ---- a page of bytes has rows of bytes

pub bytes-rows : (sz : ℕ) (pg : List ℕ) → Bytes pg → Each Bytes (rows sz pg)
unfolding rows
bytes-rows sz pg b = bytes-rows_of sz (count pg) (drop 16 pg) (bytes_drop 16 pg b)

pub bytes-spare : (pg : List ℕ) → Bytes pg → Bytes (spare pg)
unfolding spare
bytes-spare pg b = bytes-part 8 8 pg b

-- ---- a page that a change made

pub record Changed (k : Kind) (n : ℕ) (rs : List (List ℕ)) (pg : List ℕ) : Type 0 where
  pub form : shaped k pg ≡ true
  pub whole : length pg ≡ 256
  pub stamped : number pg ≡ n
  pub clear : spare pg ≡ zeroes 8
  pub holds : rows k.size pg ≡ rs

pub made-changed : (k : Kind) (n : ℕ) (sp : List ℕ) (rs : List (List ℕ)) → Fit k → n < 4294967296 → sp ≡ zeroes 8 → Fill k rs
    → Changed k n rs (made k.sign n sp rs)
made-changed k n sp rs fit small e f =
    let eight : length sp ≡ 8 = ap length e ∙ length-zeroes 8 in
    record {
      form = shaped-made k fit n sp rs e f;
      whole = length-made k.sign n sp rs eight (room_joined k fit n sp rs e f);
      stamped = number-made k.sign n sp rs small;
      clear = spare_made k.sign n sp rs eight ∙ e;
      holds = rows_made k.sign n sp rs eight k.size f.long (omega (arith, f.room, fit.few));
    }

pub changed-empty : (n : ℕ) (rs : List (List ℕ)) (pg : List ℕ) → Changed empty n rs pg → is_empty pg ≡ true
unfolding is_empty
changed-empty n rs pg c = c.form

pub changed-leaf : (n : ℕ) (rs : List (List ℕ)) (pg : List ℕ) → Changed leaf n rs pg → is_leaf pg ≡ true
unfolding is_leaf
changed-leaf n rs pg c = c.form

-- a page of the kind base whose entries point to leaves is a base page
pub changed-base : (n : ℕ) (es : List (List ℕ)) (pg : List ℕ) → Changed base n es pg → to_leaves es ≡ true → is_base pg ≡ true
unfolding is_base
changed-base n es pg c t = both-intro _ _ c.form (rw c.holds t)

-- ---- made empty

pub emptied-facts : (n : ℕ) (rs : List (List ℕ)) (pg pg' : List ℕ) → emptied n rs pg ≡ some pg'
    → (is_leaf pg ≡ true) × (joined (records pg) ≡ joined rs) × (made empty.sign n (spare pg) [] ≡ pg')
unfolding emptied
emptied-facts n rs pg pg' e =
    let w = when-some _ _ _ e in
    (both-1 _ _ w.0, same-eq (joined (records pg)) (joined rs) (both-2 _ _ w.0), w.1)

pub emptied-kept : (n : ℕ) (rs : List (List ℕ)) (pg pg' : List ℕ) → emptied n rs pg ≡ some pg' → n < 4294967296 → Changed empty n [] pg'
unfolding is_leaf
emptied-kept n rs pg pg' e small =
    let w = emptied-facts n rs pg pg' e in
    let f : Fill empty [] = record { long = nil; order = unfold ascend in refl; enough = omega arith; room = omega arith } in
    rw (← w.2) (made-changed empty n (spare pg) [] fit-empty small (shaped-facts leaf pg w.0).gap f)

-- ---- records appended

pub appended-facts : (n : ℕ) (rs : List (List ℕ)) (pg pg' : List ℕ) → appended n rs pg ≡ some pg'
    → ((is_empty pg ≡ true) ⊎ (is_leaf pg ≡ true)) × (length (records pg) + length rs ≤ 15) × (ascend_records (above 0 (records pg)) rs ≡ true)
    × (made leaf.sign n (spare pg) (records pg ++ rs) ≡ pg')
unfolding appended
appended-facts n rs pg pg' e =
    let w = when-some _ _ _ e in
    let t = all_tail _ _ w.0 in
    (pick-or (is_empty pg) (is_leaf pg) (all_head _ _ w.0), leb-true (length (records pg) + length rs) 15 (all_head _ _ t), all_head _ _ (all_tail _ _ t), w.1)

-- a page that records can be appended to: an empty page, or a leaf
pub record Takes (pg : List ℕ) : Type 0 where
  pub long : Each (Long 16) (records pg)
  pub order : ascend_records 0 (records pg) ≡ true
  pub clear : spare pg ≡ zeroes 8
  pub whole : length pg ≡ 256
  pub mark : get_or pg 0 0 ≡ 112
  pub inside : drop 16 pg ≡ body (records pg)
  pub few : count pg ≤ 15

takes-by : (k : Kind) (pg : List ℕ) → Fit k → shaped k pg ≡ true → k.size ≡ 16 → k.first ≡ 114 → k.second ≡ 99 → k.most ≤ 15 → Takes pg
takes-by k pg fit e z a b m =
    let s : Shaped k pg = shaped-facts k pg e in
    let f : Fill k (rows k.size pg) = fill-of k pg fit e in
    record {
      long = rw z at f.long;
      order = rw (z, a, b) at f.order;
      clear = s.gap;
      whole = s.whole;
      mark = s.mark;
      inside = rw z at (body_of k.size pg s.whole s.rest);
      few = le_trans s.room m;
    }

pub takes : (pg : List ℕ) → (is_empty pg ≡ true) ⊎ (is_leaf pg ≡ true) → Takes pg
unfolding is_empty is_leaf
takes pg t =
    ⊎_elim (λ e. takes-by empty pg fit-empty e refl refl refl (omega arith)) (λ e. takes-by leaf pg fit-leaf e refl refl refl (omega arith)) t

pub appended-kept : (n : ℕ) (rs : List (List ℕ)) (pg pg' : List ℕ) → appended n rs pg ≡ some pg' → n < 4294967296 → Each (Long 16) rs
    → 1 ≤ length rs
    → Changed leaf n (records pg ++ rs) pg'
appended-kept n rs pg pg' e small long some-rows =
    let w = appended-facts n rs pg pg' e in
    let t : Takes pg = takes pg w.0 in
    let l : length (records pg ++ rs) ≡ length (records pg) + length rs = length-append (records pg) rs in
    let f : Fill leaf (records pg ++ rs) =
    record {
      long = each_append t.long long;
      order = ascend-append 114 99 0 (records pg) rs ∙ both-intro _ _ t.order w.2;
      enough = omega arith;
      room = omega (arith, w.1);
    } in
    rw (← w.3) (made-changed leaf n (spare pg) (records pg ++ rs) fit-leaf small t.clear f)

-- ---- an entry pointed elsewhere, an entry removed

pub redirected-facts : (n key old new : ℕ) (pg pg' : List ℕ) → redirected n key old new pg ≡ some pg'
    → (is_base pg ≡ true) × (has key old (entries pg) ≡ true) × (made base.sign n (spare pg) (point_to key old new (entries pg)) ≡ pg')
unfolding redirected
redirected-facts n key old new pg pg' e =
    let w = when-some _ _ _ e in
    (both-1 _ _ w.0, both-2 _ _ w.0, w.1)

pub removed-facts : (n key old : ℕ) (pg pg' : List ℕ) → removed n key old pg ≡ some pg'
    → (is_base pg ≡ true) × (has key old (entries pg) ≡ true) × (2 ≤ length (entries pg))
    × (made base.sign n (spare pg) (without key old (entries pg)) ≡ pg')
unfolding removed
removed-facts n key old pg pg' e =
    let w = when-some _ _ _ e in
    let t = all_tail _ _ w.0 in
    (all_head _ _ w.0, all_head _ _ t, leb-true 2 (length (entries pg)) (all_head _ _ (all_tail _ _ t)), w.1)

-- one entry fewer
pub length_without : (key old : ℕ) (es : List (List ℕ)) → ascend 101 110 0 es ≡ true → has key old es ≡ true
    → length (without key old es) + 1 ≡ length es
length_without key old es t h =
    let f : Found key old es = has-found key old es h in
    rw (without_at key old 101 110 0 f.place es t f.inside f.keyed f.to)
    (simp (length-append, length-take, length-drop) (omega (arith, f.inside)))

pub redirected-kept : (n key old new : ℕ) (pg pg' : List ℕ) → redirected n key old new pg ≡ some pg' → n < 4294967296 → first_leaf ≤ new → new ≤ last_leaf
    → Changed base n (point_to key old new (entries pg)) pg' × (is_base pg' ≡ true)
redirected-kept n key old new pg pg' e small lo hi =
    let w = redirected-facts n key old new pg pg' e in
    let s : shaped base pg ≡ true = base-shaped pg w.0 in
    let g : Fill base (entries pg) = fill-of base pg fit-base s in
    let l : length (point_to key old new (entries pg)) ≡ length (entries pg) = length-point_to key old new (entries pg) in
    let f : Fill base (point_to key old new (entries pg)) =
    record {
      long = each-point_to key old new (λ e h. long-pointed new e h) g.long;
      order = ascend-point_to key old new 101 110 0 (entries pg) g.long g.order;
      enough = rw l g.enough;
      room = rw l g.room;
    } in
    let c : Changed base n (point_to key old new (entries pg)) pg' =
    rw (← w.2) (made-changed base n (spare pg) (point_to key old new (entries pg)) fit-base small (shaped-facts base pg s).gap f) in (
      c,
      changed-base n (point_to key old new (entries pg)) pg' c
          (pointing-point_to key old new first_leaf last_leaf (entries pg) g.long lo hi (omega arith) (base-pointing pg w.0)),
    )

pub removed-kept : (n key old : ℕ) (pg pg' : List ℕ) → removed n key old pg ≡ some pg' → n < 4294967296
    → Changed base n (without key old (entries pg)) pg' × (is_base pg' ≡ true)
removed-kept n key old pg pg' e small =
    let w = removed-facts n key old pg pg' e in
    let s : shaped base pg ≡ true = base-shaped pg w.0 in
    let g : Fill base (entries pg) = fill-of base pg fit-base s in
    let l : length (without key old (entries pg)) + 1 ≡ length (entries pg) = length_without key old (entries pg) g.order w.1 in
    let f : Fill base (without key old (entries pg)) =
    record {
      long = each-without key old g.long;
      order = ascend-without key old 101 110 0 (entries pg) g.order;
      enough = omega (arith, w.2);
      room = omega (arith, g.room);
    } in
    let c : Changed base n (without key old (entries pg)) pg' =
    rw (← w.3) (made-changed base n (spare pg) (without key old (entries pg)) fit-base small (shaped-facts base pg s).gap f) in
    (c, changed-base n (without key old (entries pg)) pg' c (pointing-without key old first_leaf last_leaf (entries pg) (base-pointing pg w.0)))

-- ---- a change of a page of bytes is one

pub bytes-emptied : (n : ℕ) (rs : List (List ℕ)) (pg pg' : List ℕ) → emptied n rs pg ≡ some pg' → Bytes pg → Bytes pg'
bytes-emptied n rs pg pg' e b =
    rw (← (emptied-facts n rs pg pg' e).2) (bytes-made empty.sign n (spare pg) [] (omega arith) (bytes-spare pg b) nil)

pub bytes-appended : (n : ℕ) (rs : List (List ℕ)) (pg pg' : List ℕ) → appended n rs pg ≡ some pg' → Bytes pg → Each Bytes rs → Bytes pg'
bytes-appended n rs pg pg' e b p =
    rw (← (appended-facts n rs pg pg' e).3)
    (bytes-made leaf.sign n (spare pg) (records pg ++ rs) (omega arith) (bytes-spare pg b) (each_append (bytes-rows 16 pg b) p))

pub bytes-redirected : (n key old new : ℕ) (pg pg' : List ℕ) → redirected n key old new pg ≡ some pg' → Bytes pg → Bytes pg'
bytes-redirected n key old new pg pg' e b =
    rw (← (redirected-facts n key old new pg pg' e).2)
    (bytes-made base.sign n (spare pg) (point_to key old new (entries pg)) (omega arith) (bytes-spare pg b)
    (each-point_to key old new (λ r h. bytes-put 6 (bytes2 new) r (bytes-bytes2 new) h) (bytes-rows 8 pg b)))

pub bytes-removed : (n key old : ℕ) (pg pg' : List ℕ) → removed n key old pg ≡ some pg' → Bytes pg → Bytes pg'
bytes-removed n key old pg pg' e b =
    rw (← (removed-facts n key old pg pg' e).3)
    (bytes-made base.sign n (spare pg) (without key old (entries pg)) (omega arith) (bytes-spare pg b) (each-without key old (bytes-rows 8 pg b)))
