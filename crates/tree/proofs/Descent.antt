-- Find's way down: one turn of its two loops, its tests of a page, and its three pages. The laws that end in `!` are for `search`.
-- Assumes nothing.
use Prim.Native.Nat.{ℕ, ◌+◌, ◌-◌, ◌*◌, ◌≤◌, ◌<◌}
use native.Mathlib.Omega.{arith}
use mathlib.Core.Path.{◌≡◌, refl, sym, ap, ◌∙◌}
use mathlib.Core.Bool.{Bool, true, false, not}
use mathlib.Core.List.{List, [], ◌∷◌, ◌++◌, append-nil}
use mathlib.Core.Option.{Option, some, none}
use lib.ListN.{length, take, drop}
use lib.Dec.{leb}
use borrow.Author.Tests.{eq-eqb, ne_eqb, le-leb, lt-leb, leb-true, not-true, not-false}
use Rattle.field.specs.Test.{both, pick, given}
use Rattle.field.specs.Bytes.{part, put, zeroes, le2, le4}
use Rattle.field.proofs.Test.{both-1, both-2, pick-either, need-true, need-false}
use Rattle.field.proofs.Part.{split, part-drop, part-part, length_part, lent-part, put_front}
use Rattle.page.specs.Page.{root, base, leaf, empty, rows_of, key_of, to_page, value_of, pointing, letter, count, rows, entries}
use Rattle.page.specs.Page.{first_base, last_base, first_leaf, last_leaf, is_root, is_base, is_leaf, is_empty, formed}
use Rattle.page.specs.Places.{Basic, Leafy}
use Rattle.page.specs.Pages.{page}
use Rattle.page.proofs.Rows.{rows_of-add, key_row, page-row}
use Rattle.page.proofs.Turns.{rows_next}
use Rattle.page.proofs.Made.{shaped-facts}
use Rattle.page.proofs.Region.{formed-0, formed-low, formed-high, leaf-formed, root-shaped, base-shaped, leaf-shaped, empty-shaped}
use Rattle.tree.specs.Answer.{Found, missing, found, last_not_above, record_with, readable, in_leaf, look_up}
use Rattle.tree.specs.Answer as answer
use Rattle.tree.specs.Way.{last_to, passable, way_on, way_down, record_in, leaf_in, reply_of, bytes_of}
use Rattle.tree.specs.declared.find.Way.{Way}
use Rattle.tree.specs.declared.find.Way.TheVariants.{Refused, To}
use Rattle.tree.proofs.Turn.{none_left}
use Rattle.tree.proofs.Regions.{decide, entries-ordered, records-ordered, root-points, base-points, letter-full}

-- n rows, the last of them apart
pub rows_last : (sz n at : ℕ) (l : List ℕ) → 0 < n → rows_of sz n (drop at l) ≡ rows_of sz (n - 1) (drop at l) ++ (part (at + sz * (n - 1)) sz l ∷ [])
unfolding rows_of part
rows_last sz n at l h =
    let e : n ≡ n - 1 + 1 = omega arith in
    ap (λ (k : ℕ). rows_of sz k (drop at l)) e ∙ rows_of-add sz (n - 1) 1 (drop at l)
    ∙ ap (λ (r : List ℕ). rows_of sz (n - 1) (drop at l) ++ (r ∷ [])) (unfold part in part-drop at (sz * (n - 1)) sz l)

-- ---- the loop over entries, from the last

pub last_snoc : (key : ℕ) (best : Option ℕ) (es : List (List ℕ)) (e : List ℕ)
    → last_not_above key best (es ++ (e ∷ [])) ≡ pick (leb (key_of e) key) (some (to_page e)) (last_not_above key best es)
unfolding last_not_above
last_snoc key best [] e = refl
last_snoc key best (x ∷ xs) e = last_snoc key (pick (leb (key_of x) key) (some (to_page x)) best) xs e

module _ (key n left : ℕ) (l : List ℕ) (e : last_to key (rows_of 8 n (drop 16 l)) ≡ last_to key (rows_of 8 left (drop 16 l))) where
  pub last-end! : left ≤ 0 → Refused 15 ≡ last_to key (rows_of 8 n (drop 16 l))
  last-end! h = sym (e ∙ rw (none_left 8 left (drop 16 l) h) (unfold last_to last_not_above given in refl))

  module _ (k : ℕ) (q : k ≡ le4 l (16 + 8 * (left - 1) + 2)) (more : 0 < left) where
    turn : last_to key (rows_of 8 n (drop 16 l))
        ≡ given (pick (leb k key) (some (le2 l (16 + 8 * (left - 1) + 6))) (last_not_above key none (rows_of 8 (left - 1) (drop 16 l)))) (Refused 15) To
    unfolding last_to
    turn =
        e ∙ rw (rows_last 8 left 16 l more, last_snoc, key_row 8 (16 + 8 * (left - 1)) l (omega arith), page-row 8 (16 + 8 * (left - 1)) l (omega arith), ← q)

    pub last-here! : (t : ℕ) → t ≡ le2 l (16 + 8 * (left - 1) + 6) → k ≤ key → To t ≡ last_to key (rows_of 8 n (drop 16 l))
    unfolding pick given
    last-here! t f h = sym (turn ∙ rw (le-leb k key h, ← f))

    pub last-more! : key < k → last_to key (rows_of 8 n (drop 16 l)) ≡ last_to key (rows_of 8 (left - 1) (drop 16 l))
    unfolding pick last_to
    last-more! h = turn ∙ rw (lt-leb k key h)

-- ---- the loop over records, and the reply and bytes of what it finds

module _ (key n left at : ℕ) (l : List ℕ) (e : record_in key (rows_of 16 n (drop 16 l)) ≡ record_in key (rows_of 16 left (drop at l))) where
  record-end : left ≤ 0 → record_in key (rows_of 16 n (drop 16 l)) ≡ missing 15
  record-end h = e ∙ rw (none_left 16 left (drop at l) h) (unfold record_in record_with given in refl)

  pub none-reply! : (r : ℕ) → left ≤ 0 → r ≡ 15 → r ≡ reply_of (record_in key (rows_of 16 n (drop 16 l)))
  unfolding reply_of
  none-reply! r h f = f ∙ rw (record-end h)

  pub none-bytes! : (v : List ℕ) → left ≤ 0 → v ≡ zeroes 10 → v ≡ bytes_of (record_in key (rows_of 16 n (drop 16 l)))
  unfolding bytes_of
  none-bytes! v h f = f ∙ rw (record-end h)

  module _ (k : ℕ) (q : k ≡ le4 l (at + 2)) (more : 0 < left) where
    pub record-more! : (k ≡ key → ⊥) → record_in key (rows_of 16 n (drop 16 l)) ≡ record_in key (rows_of 16 (left - 1) (drop (at + 16) l))
    unfolding record_in record_with pick
    record-more! h = e ∙ rw (rows_next 16 left at l more, key_row 16 at l (omega arith), ← q, ne_eqb k key h)

    module _ (h : k ≡ key) (fits : at + 16 * left ≤ length l) where
      record-here : record_in key (rows_of 16 n (drop 16 l)) ≡ found (part (at + 6) 10 l)
      unfolding record_in record_with pick given value_of
      record-here =
          e ∙ rw (rows_next 16 left at l more, key_row 16 at l (omega arith), ← q, eq-eqb k key h, part-part 6 10 at 16 l (omega arith) (omega arith))

      pub here-reply! : 0 ≡ reply_of (record_in key (rows_of 16 n (drop 16 l)))
      unfolding reply_of
      here-reply! = rw record-here

      pub here-bytes! : (v : List ℕ) → v ≡ part (at + 6) 10 l → v ≡ bytes_of (record_in key (rows_of 16 n (drop 16 l)))
      unfolding bytes_of
      here-bytes! v f = f ∙ rw record-here

-- ten bytes copied over ten others
pub ten-bytes : (at : ℕ) (l m : List ℕ) → length m ≡ 10 → at + 10 ≤ length l → put 0 (take (at + 10 - at) (drop at l)) m ≡ part at 10 l
ten-bytes at l m h k =
    let b : List ℕ = part at 10 l in
    let lb : length b ≡ 10 = length_part at 10 l k in
    rw (lent-part at 10 l) (ap (put 0 b) (sym (append-nil m)) ∙ put_front m b [] (h ∙ sym lb) ∙ append-nil b)

positive : (p : ℕ) → (p ≡ 0 → ⊥) → 1 ≤ p
positive p ne = split p 1 (λ h. absurd (ne (omega arith))) (λ h. h)

-- ---- the tests of a page on the way: it is of the one kind that may be passed there

module _ (p : ℕ) (pg : List ℕ) where
  only : (z : Bool) → (z ≡ true → letter pg ≡ 101 → ⊥) → formed p pg ≡ pick (is_empty pg) true z → z ≡ passable p pg
  unfolding passable both pick
  only z ne f =
      decide (is_empty pg)
      (λ t. decide z (λ y. absurd (ne y (shaped-facts empty pg (empty-shaped pg t)).lettered)) (λ y. y ∙ sym (rw (f, t))))
      (λ t. decide z (λ y. y ∙ sym (rw (f, t, y))) (λ y. y ∙ sym (rw (f, t, y))))

  pub node-base! : (z : Bool) → z ≡ is_base pg → (p ≡ 0 → ⊥) → p < first_leaf → z ≡ passable p pg
  node-base! z e ne h =
      e ∙ only (is_base pg) (λ y l. omega (arith, (shaped-facts base pg (base-shaped pg y)).lettered)) (formed-low p pg (positive p ne) (omega arith))

  leaf-only : last_base < p → is_leaf pg ≡ passable p pg
  leaf-only h = only (is_leaf pg) (λ y l. omega (arith, (shaped-facts leaf pg (leaf-shaped pg y)).lettered)) (formed-high p pg (omega arith) h)

pub node-root! : (p : ℕ) (pg : List ℕ) (z : Bool) → z ≡ is_root pg → p ≡ 0 → z ≡ passable p pg
unfolding passable both
node-root! p pg z e k =
    decide (is_root pg)
    (λ y. e ∙ y ∙ sym (rw (k, formed-0 pg, y, letter-full pg (λ l. omega (arith, (shaped-facts root pg (root-shaped pg y)).lettered)))))
    (λ y. e ∙ y ∙ sym (rw (k, formed-0 pg, y)))

module _ (key p : ℕ) (pg : List ℕ) (z : Bool) where
  module _ (e : z ≡ passable p pg) where
    pub way-broken! : not z ≡ true → Refused 3 ≡ way_on key p pg
    unfolding way_on
    way-broken! h = sym (need-false _ _ _ (sym e ∙ not-true z h))

    module _ (h : not z ≡ false) (n : ℕ) (k : n ≡ count pg) where
      open-to : passable p pg ≡ true
      open-to = sym e ∙ not-false z h

      pub entries_fit : p < first_leaf → 16 + 8 * n ≤ length pg
      unfolding passable
      entries_fit l =
          let f : formed p pg ≡ true = both-1 _ _ open-to in
          omega (arith, (entries-ordered p pg f (omega arith)).whole, (entries-ordered p pg f (omega arith)).room)

      pub way-through! : (r : Way) → r ≡ last_to key (rows_of 8 n (drop 16 pg)) → r ≡ way_on key p pg
      unfolding way_on rows
      way-through! r t = t ∙ rw k (sym (need-true _ _ _ open-to))

  module _ (e : z ≡ is_leaf pg) where
    leaf-shut : last_base < p → not z ≡ true → leaf_in key p pg ≡ missing 3
    unfolding leaf_in
    leaf-shut l h = need-false _ _ _ (sym (leaf-only p pg l) ∙ sym e ∙ not-true z h)

    pub leaf-broken-reply! : (r : ℕ) → last_base < p → not z ≡ true → r ≡ 3 → r ≡ reply_of (leaf_in key p pg)
    unfolding reply_of
    leaf-broken-reply! r l h g = g ∙ rw (leaf-shut l h)

    pub leaf-broken-bytes! : (v : List ℕ) → last_base < p → not z ≡ true → v ≡ zeroes 10 → v ≡ bytes_of (leaf_in key p pg)
    unfolding bytes_of
    leaf-broken-bytes! v l h g = g ∙ rw (leaf-shut l h)

    module _ (h : not z ≡ false) (n : ℕ) (k : n ≡ count pg) (l : last_base < p) where
      is_leaf_lem : is_leaf pg ≡ true
      is_leaf_lem = sym e ∙ not-false z h

      pub records-fit : 16 + 16 * n ≤ length pg
      records-fit =
          let f : formed p pg ≡ true = leaf-formed p pg l is_leaf_lem in
          omega (arith, (records-ordered p pg f l).whole, (records-ordered p pg f l).room)

      leaf-through : leaf_in key p pg ≡ record_in key (rows_of 16 n (drop 16 pg))
      unfolding leaf_in rows
      leaf-through = need-true _ _ _ (sym (leaf-only p pg l) ∙ is_leaf_lem) ∙ rw k

      pub leaf-reply! : (r : ℕ) → r ≡ reply_of (record_in key (rows_of 16 n (drop 16 pg))) → r ≡ reply_of (leaf_in key p pg)
      leaf-reply! r t = t ∙ ap reply_of (sym leaf-through)

      pub leaf-bytes! : (v : List ℕ) → v ≡ bytes_of (record_in key (rows_of 16 n (drop 16 pg))) → v ≡ bytes_of (leaf_in key p pg)
      leaf-bytes! v t = t ∙ ap bytes_of (sym leaf-through)

-- ---- where the way leads

refused-to : (r q : ℕ) → Refused r ≡ To q → ◌≡◌ {A = ℕ} 0 1
refused-to r q e = cc

last-in : (key from to : ℕ) (best : Option ℕ) (es : List (List ℕ)) → ((b : ℕ) → best ≡ some b → (from ≤ b) × (b ≤ to)) → pointing from to es ≡ true
    → (q : ℕ) → last_not_above key best es ≡ some q → (from ≤ q) × (q ≤ to)
unfolding last_not_above pointing
last-in key from to best [] f t = f
last-in key from to best (e ∷ es) f t =
    let t1 = both-2 _ _ t in
    let here : (b : ℕ) → some (to_page e) ≡ some b → (from ≤ b) × (b ≤ to) =
    λ b g. let s : to_page e ≡ b = cc in
    (omega (arith, leb-true from (to_page e) (both-1 _ _ t)), omega (arith, leb-true (to_page e) to (both-1 _ _ t1))) in
    last-in key from to (pick (leb (key_of e) key) (some (to_page e)) best) es
    (pick-either (λ (o : Option ℕ). (b : ℕ) → o ≡ some b → (from ≤ b) × (b ≤ to)) (leb (key_of e) key) (some (to_page e)) best here f)
    (both-2 _ _ t1)

none-some : {b : ℕ} → none ≡ some b → ◌≡◌ {A = ℕ} 0 1
none-some e = cc

to_some : (o : Option ℕ) (q : ℕ) → given o (Refused 15) To ≡ To q → o ≡ some q
unfolding given
to_some none q e = absurd (let z : ◌≡◌ {A = ℕ} 0 1 = refused-to 15 q e in omega arith)
to_some (some a) q e = cc

way-passable : (key p : ℕ) (pg : List ℕ) (q : ℕ) → way_on key p pg ≡ To q → (passable p pg ≡ true) × (last_to key (entries pg) ≡ To q)
unfolding way_on
way-passable key p pg q e =
    decide (passable p pg)
    (λ h. (h, sym (need-true _ _ _ h) ∙ e))
    (λ h. absurd (let z : ◌≡◌ {A = ℕ} 0 1 = refused-to 3 q (sym (need-false _ _ _ h) ∙ e) in omega arith))

way-points : (key p : ℕ) (pg : List ℕ) (from to q : ℕ) → way_on key p pg ≡ To q → (formed p pg ≡ true → pointing from to (entries pg) ≡ true) → (from ≤ q) × (q ≤ to)
unfolding passable last_to
way-points key p pg from to q e f =
    let h = way-passable key p pg q e in
    last-in key from to none (entries pg) (λ b g. absurd (let z : ◌≡◌ {A = ℕ} 0 1 = none-some g in omega arith)) (f (both-1 _ _ h.0)) q
    (to_some (last_not_above key none (entries pg)) q h.1)

pub way-from-root : (key : ℕ) (w : List ℕ) (q : ℕ) → way_down key 0 w ≡ To q → Basic q
unfolding way_down
way-from-root key w q e = way-points key 0 (page 0 w) first_base last_base q e (λ f. root-points (page 0 w) f)

pub way-from-base : (key p : ℕ) (w : List ℕ) (q : ℕ) → way_down key p w ≡ To q → first_base ≤ p → p ≤ last_base → Leafy q
unfolding way_down
way-from-base key p w q e h k = way-points key p (page p w) first_leaf last_leaf q e (λ f. base-points p (page p w) f h k)

-- ---- the definition of find by these steps

along : Way → (ℕ → Found) → Found
along (Refused r) next = missing r
along (To q) next = next q

onward : (o : Option ℕ) (next : ℕ → Found) → given o (missing 15) next ≡ along (given o (Refused 15) To) next
unfolding given along
onward none next = refl
onward (some q) next = refl

down-along : (key p : ℕ) (w : List ℕ) (next : ℕ → Found) → answer.down key p w next ≡ along (way_down key p w) next
unfolding answer.down way_down way_on last_to passable readable
down-along key p w next =
    decide (both (formed p (page p w)) (not (is_empty (page p w))))
    (λ t. need-true _ _ _ t ∙ onward (last_not_above key none (entries (page p w))) next ∙ ap (λ (y : Way). along y next) (sym (need-true _ _ _ t)))
    (λ t. need-false _ _ _ t ∙ sym (ap (λ (y : Way). along y next) (need-false _ _ _ t) ∙ (unfold along in refl)))

module _ (key : ℕ) (w : List ℕ) where
  at-root : look_up key w ≡ along (way_down key 0 w) (λ b. answer.down key b w (λ p. in_leaf key p w))
  unfolding look_up
  at-root = down-along key 0 w (λ b. answer.down key b w (λ p. in_leaf key p w))

  stop-root : (r : ℕ) → Refused r ≡ way_down key 0 w → look_up key w ≡ missing r
  unfolding along
  stop-root r e = at-root ∙ rw (← e)

  module _ (y : Way) (e : y ≡ way_down key 0 w) where
    pub root-reply! : (r x : ℕ) → y ≡ Refused r → x ≡ r → x ≡ reply_of (look_up key w)
    unfolding reply_of
    root-reply! r x t f = f ∙ rw (stop-root r (sym t ∙ e))

    pub root-bytes! : (r : ℕ) (v : List ℕ) → y ≡ Refused r → v ≡ zeroes 10 → v ≡ bytes_of (look_up key w)
    unfolding bytes_of
    root-bytes! r v t f = f ∙ rw (stop-root r (sym t ∙ e))

    module _ (b : ℕ) (t : y ≡ To b) where
      at_base : look_up key w ≡ along (way_down key b w) (λ p. in_leaf key p w)
      unfolding along
      at_base = at-root ∙ rw (← e, t) (down-along key b w (λ p. in_leaf key p w))

      pub base-small : Basic b
      base-small = way-from-root key w b (sym e ∙ t)

      module _ (z : Way) (f : z ≡ way_down key b w) where
        stop-base : (r : ℕ) → z ≡ Refused r → look_up key w ≡ missing r
        unfolding along
        stop-base r g = at_base ∙ rw (← f, g)

        pub base-reply! : (r x : ℕ) → z ≡ Refused r → x ≡ r → x ≡ reply_of (look_up key w)
        unfolding reply_of
        base-reply! r x g h = h ∙ rw (stop-base r g)

        pub base-bytes! : (r : ℕ) (v : List ℕ) → z ≡ Refused r → v ≡ zeroes 10 → v ≡ bytes_of (look_up key w)
        unfolding bytes_of
        base-bytes! r v g h = h ∙ rw (stop-base r g)

        module _ (p : ℕ) (g : z ≡ To p) where
          pub leaf-small : Leafy p
          leaf-small = way-from-base key b w p (sym f ∙ g) base-small.0 base-small.1

          at_leaf : look_up key w ≡ in_leaf key p w
          unfolding along
          at_leaf = at_base ∙ rw (← f, g)

          pub found-reply! : (x : ℕ) → x ≡ reply_of (in_leaf key p w) → x ≡ reply_of (look_up key w)
          found-reply! x h = h ∙ ap reply_of (sym at_leaf)

          pub found-bytes! : (v : List ℕ) → v ≡ bytes_of (in_leaf key p w) → v ≡ bytes_of (look_up key w)
          found-bytes! v h = h ∙ ap bytes_of (sym at_leaf)

pub leaf-page : (key p : ℕ) (w : List ℕ) → in_leaf key p w ≡ leaf_in key p (page p w)
unfolding in_leaf leaf_in record_in readable passable
leaf-page key p w = refl
