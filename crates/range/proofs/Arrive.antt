-- The first record from a key on: the records of the tree are those below the entries before it, which are lower than the key, those of its
-- leaf page, and those below the entries behind, which are higher. Assumes nothing.
use Prim.Native.Nat.{ℕ, suc, ◌+◌, ◌-◌, ◌≤◌, ◌<◌}
use native.Mathlib.Nat.{not-suc-le-zero}
use native.Mathlib.Omega.{arith}
use mathlib.Core.Path.{◌≡◌, refl, sym, ap, subst, ◌∙◌}
use mathlib.Core.Bool.{true}
use mathlib.Core.List.{List, [], ◌∷◌, ◌++◌, append_assoc}
use lib.ListN.{length, take, drop, get_or, drop_of_length-le, take-append-drop}
use lib.Seq.{split_at, drop-cons}
use borrow.Author.Tests.{eqb-true}
use Rattle.field.specs.Bytes.{Bytes, most4}
use Rattle.field.proofs.Part.{split}
use Rattle.page.specs.Page.{key_of, to_page, count, rows, last_base}
use Rattle.page.specs.Pages.{page, pages}
use Rattle.page.specs.Each.{Each, nil, cons}
use Rattle.page.proofs.Rows.{each_append, length-rows}
use Rattle.page.proofs.Kept.{bytes-rows}
use Rattle.page.proofs.Pages.{get_or-pages, bytes-page}
use Rattle.tree.specs.Tree.{under, below, starts_at_zero, keys_kept, all_records}
use Rattle.tree.specs.Walk.{Spot, Below, Over}
use Rattle.tree.specs.Answer.{between}
use Rattle.tree.specs.Reader.{Sound, from_root, behind}
use Rattle.tree.proofs.Between.{key-small}
use Rattle.tree.proofs.Listing.{between-append}
use Rattle.tree.proofs.Sound.{each_map, each_left, each_right}
use Rattle.tree.proofs.Onward.{below-append, below-drop, below-done, root_over, sound-over, each-under, come-end, all_from, from-done}
use Rattle.ranging.specs.Reading.{place, the_end, entry_to, rows_below, first_from}
use Rattle.ranging.proofs.Passed.{below-most, below-front, below_at, below_next, below-some}
use Rattle.range.proofs.Rising.{Rising, From, Filled, ascend-rising, rising-least, rising-rest, kept_back, below-rising, below-before}
use Rattle.range.proofs.Bounds.{between_none, between-all}
use Rattle.ranging.proofs.Descend.{sound-starts, sound-kept, head-key, top-few, seek-none, top-over, base-some, base-few, base-spot, seek-at}
use Rattle.range.proofs.Standing.{Seat, Comes, end-standing, root-to, base-to, settled-comes}

-- ---- lists cut around an element

cut_at : (rs : List (List ℕ)) (n : ℕ) → 0 < n → n ≤ length rs → rs ≡ take (n - 1) rs ++ (get_or rs (n - 1) [] ∷ drop n rs)
cut_at rs n h k =
    let e : suc (n - 1) ≡ n = omega arith in
    split_at rs (n - 1) [] (omega arith) ∙ ap (λ (m : ℕ). take (n - 1) rs ++ (get_or rs (n - 1) [] ∷ drop m rs)) e

below-cut : (ps as₀ : List (List ℕ)) (e : List ℕ) (cs bs : List (List ℕ)) (f : List ℕ) (ds : List (List ℕ)) → rows 8 (under ps e) ≡ bs ++ (f ∷ ds)
    → below 8 ps (as₀ ++ (e ∷ cs)) ≡ (below 8 ps as₀ ++ bs) ++ (f ∷ (ds ++ below 8 ps cs))
below-cut ps as₀ e cs bs f ds d =
    let one : below 8 ps (e ∷ cs) ≡ rows 8 (under ps e) ++ below 8 ps cs = unfold below in refl in
    below-append 8 ps as₀ (e ∷ cs)
    ∙ rw (one, d, append_assoc bs (f ∷ ds) (below 8 ps cs)) (sym (append_assoc (below 8 ps as₀) bs (f ∷ (ds ++ below 8 ps cs))))

-- ---- all entries of the base pages

module _ (w : List ℕ) (s : Sound w) where
  abbrev ps : List (List ℕ)
  ps = pages w

  abbrev es : List (List ℕ)
  es = rows 8 (page 0 w)

  -- the page below an entry of a base page
  filled : (e : List ℕ) → Below 16 w e → Filled (pages w) e
  unfolding under
  filled e h =
      let z : get_or (pages w) (to_page e) [] ≡ page (to_page e) w = get_or-pages (to_page e) w h.inside in
      record {
        some = rw (z, length-rows 16 (page (to_page e) w)) h.full;
        rise = rw z (ascend-rising h.order.one h.order.two 0 (rows 16 (page (to_page e) w)) h.order.order);
      }

  pub all-filled : Each (Filled (pages w)) (below 8 (pages w) (rows 8 (page 0 w)))
  all-filled = each_map filled (each-under w es (sound-over w s))

  -- the records of the tree rise
  pub records-rise : Rising 0 (below 16 (pages w) (below 8 (pages w) (rows 8 (page 0 w))))
  records-rise = below-rising ps (below 8 ps es) (sound-kept w s) all-filled 0 (from_zero_lem (below 8 ps es))
    where
      from_zero_lem : (xs : List (List ℕ)) → From 0 xs
      from_zero_lem [] = tt
      from_zero_lem (x ∷ xs) = omega arith

  -- and are records of bytes
  module _ (bytes : Bytes w) where
    bytes_below : (xs : List (List ℕ)) → Each (Below 16 w) xs → Each (λ r. key_of r ≤ most4) (below 16 (pages w) xs)
    unfolding below under
    bytes_below [] nil = nil
    bytes_below (e ∷ xs) (cons h p) =
        rw (get_or-pages (to_page e) w h.inside)
        (each_append (each_map (λ r b. omega (arith, key-small r b)) (bytes-rows 16 (page (to_page e) w) (bytes-page (to_page e) w bytes))) (bytes_below xs p))

    pub records-small : Each (λ r. key_of r ≤ most4) (below 16 (pages w) (below 8 (pages w) (rows 8 (page 0 w))))
    records-small = bytes_below (below 8 ps es) (each-under w es (sound-over w s))

  -- ---- no entry of the root

  starts_first : (xs : List (List ℕ)) → starts_at_zero xs ≡ true → 0 < length xs → key_of (get_or xs 0 []) ≡ 0
  unfolding starts_at_zero
  starts_first [] t h = absurd (not-suc-le-zero h)
  starts_first (x ∷ xs) t h = eqb-true (key_of x) 0 t

  pub top-none : (key : ℕ) → rows_below (key + 1) (rows 8 (page 0 w)) ≡ 0 → count (page 0 w) ≤ 0
  top-none key z =
      split 0 (count (page 0 w))
      (λ h. let k : 0 < length es = rw (length-rows 8 (page 0 w)) h in
      let f : key_of (get_or es 0 []) ≡ 0 = starts_first es (sound-starts w s) k in
      absurd (let x : ⊥ = omega (arith, below-some (key + 1) es k (omega arith)) in x))
      (λ h. h)

-- ---- around the entry that leads to the leaf page

module _ (w : List ℕ) (s : Sound w) (bytes : Bytes w) (key o : ℕ) (eo : o ≡ rows_below (key + 1) (rows 8 (page 0 w))) (some : 0 < o) (b : ℕ) (eb : b ≡ entry_to 0 (o - 1) w)
    (i : ℕ) (ei : i ≡ rows_below (key + 1) (rows 8 (page b w))) (p : ℕ) (ep : p ≡ entry_to b (i - 1) w) (r : ℕ) (er : r ≡ rows_below key (rows 16 (page p w))) where
  abbrev rb : List (List ℕ)
  rb = rows 8 (page b w)

  over : Over w b
  over = top-over w s key o eo some b eb

  spot : Spot 16 w p
  spot = base-spot w s key o eo some b eb i ei p ep

  low : b ≤ last_base
  low = root-to w s (o - 1) b (omega (arith, top-few w s key o eo)) eb

  in-base : i - 1 < count (page b w)
  in-base = omega (arith, base-few w s key o eo some b eb i ei, base-some w s key o eo some b eb i ei)

  high : last_base < p
  high = base-to w s b (i - 1) p over.base low in-base ep

  -- the entries before it, itself, and those behind
  xs : List (List ℕ)
  xs = below 8 (pages w) (take (o - 1) (rows 8 (page 0 w))) ++ take (i - 1) rb

  e1 : List ℕ
  e1 = get_or rb (i - 1) []

  ys : List (List ℕ)
  ys = drop i rb ++ below 8 (pages w) (drop o (rows 8 (page 0 w)))

  level : below 8 (pages w) (rows 8 (page 0 w)) ≡ xs ++ (e1 ∷ ys)
  unfolding xs e1 ys under entry_to
  level =
      let tops : List (List ℕ) = rows 8 (page 0 w) in
      let e : List ℕ = get_or tops (o - 1) [] in
      let h : o ≤ length tops = rw (length-rows 8 (page 0 w)) (top-few w s key o eo) in
      let k : i ≤ length rb = rw (length-rows 8 (page b w)) (base-few w s key o eo some b eb i ei) in
      let z : get_or (pages w) (to_page e) [] ≡ page b w = rw (← eb) (get_or-pages b w over.base.inside) in
      let down : rows 8 (get_or (pages w) (to_page e) []) ≡ take (i - 1) rb ++ (get_or rb (i - 1) [] ∷ drop i rb) = ap (rows 8) z ∙ cut_at rb i
      (base-some w s key o eo some b eb i ei) k in
      ap (below 8 (pages w)) (cut_at tops o some h) ∙ below-cut (pages w) (take (o - 1) tops) e (drop o tops) (take (i - 1) rb) (get_or rb (i - 1) []) (drop i rb) down

  -- the entry's key isn't above the wanted one, the next one's is
  entry_key : key_of e1 < key + 1
  unfolding e1
  entry_key = below_at (key + 1) (i - 1) rb (omega (arith, base-some w s key o eo some b eb i ei))

  from_next : (rs cs : List (List ℕ)) (n m : ℕ) → n ≡ rows_below m rs → n < length rs → From m (drop n rs ++ cs)
  from_next rs cs n m e h = subst (From m) (ap (λ (l : List (List ℕ)). l ++ cs) (sym (drop-cons rs n [] h))) (rw e (below_next m rs (rw (← e) h)))

  from-rows : (m : ℕ) (rs cs : List (List ℕ)) → 0 < length rs → m ≤ key_of (get_or rs 0 []) → From m (rs ++ cs)
  from-rows m [] cs h k = absurd (not-suc-le-zero h)
  from-rows m (x ∷ rs) cs h k = k

  next-top : From (key + 1) (below 8 (pages w) (drop o (rows 8 (page 0 w))))
  next-top =
      let tops : List (List ℕ) = rows 8 (page 0 w) in
      split o (length tops)
      (λ h. let q : ℕ = to_page (get_or tops o []) in
      let c : o < count (page 0 w) = rw (← length-rows 8 (page 0 w)) h in
      let page-o : Over w q = root_over w s o q c refl in
      let head : key_of (get_or (rows 8 (page q w)) 0 []) ≡ key_of (get_or tops o []) = head-key w s o q h refl page-o.base.inside in
      let k : key + 1 ≤ key_of (get_or tops o []) = rw eo (below_next (key + 1) tops (rw (← eo) h)) in
      rw (below-drop 8 w tops o q h refl page-o.base.inside)
      (from-rows (key + 1) (rows 8 (page q w)) (below 8 (pages w) (drop (o + 1) tops)) (rw (length-rows 8 (page q w)) page-o.base.full) (omega arith)))
      (λ h. rw (below-done 8 (pages w) tops o h) tt)

  next-key : From (key + 1) ys
  unfolding ys
  next-key =
      split i (length rb)
      (λ h. from_next rb (below 8 (pages w) (drop o (rows 8 (page 0 w)))) i (key + 1) ei h)
      (λ h. let done : drop i rb ≡ [] = drop_of_length-le rb h in rw done next-top)

  -- ---- the three stretches of records

  kept : keys_kept 16 (pages w) (xs ++ (e1 ∷ ys)) ≡ true
  kept = subst (λ (l : List (List ℕ)). keys_kept 16 (pages w) l ≡ true) level (sound-kept w s)

  all-full : Each (Filled (pages w)) (xs ++ (e1 ∷ ys))
  all-full = subst (Each (Filled (pages w))) level (all-filled w s)

  front_low : Each (λ x. key_of x < key) (below 16 (pages w) xs)
  front_low = each_map (λ x h. omega (arith, h, entry_key)) (below-before (pages w) e1 ys xs kept (each_left xs (e1 ∷ ys) all-full)).0

  back-high : Each (λ x. key ≤ key_of x) (below 16 (pages w) ys)
  back-high =
      let k : keys_kept 16 (pages w) ys ≡ true = kept_back (pages w) (e1 ∷ []) ys (kept_back (pages w) xs (e1 ∷ ys) kept) in
      rising-least key (key + 1) (below 16 (pages w) ys) (omega arith) (below-rising (pages w) ys k (each_right (e1 ∷ []) ys (each_right xs (e1 ∷ ys) all-full)) (key + 1) next-key)

  cut : below 16 (pages w) (below 8 (pages w) (rows 8 (page 0 w))) ≡ below 16 (pages w) xs ++ (rows 16 (page p w) ++ below 16 (pages w) ys)
  unfolding e1 entry_to under
  cut =
      let one : below 16 (pages w) (e1 ∷ ys) ≡ rows 16 (get_or (pages w) (to_page e1) []) ++ below 16 (pages w) ys = unfold below under in refl in
      let z : get_or (pages w) (to_page e1) [] ≡ page p w = rw (← ep) (get_or-pages p w spot.inside) in
      ap (below 16 (pages w)) level ∙ below-append 16 (pages w) xs (e1 ∷ ys) ∙ rw (one, z)

  small : Each (λ x. key_of x ≤ most4) (rows 16 (page p w) ++ below 16 (pages w) ys)
  small = each_right (below 16 (pages w) xs) (rows 16 (page p w) ++ below 16 (pages w) ys) (subst (Each (λ x. key_of x ≤ most4)) cut (records-small w s bytes))

  -- of the leaf page
  here : between key most4 (rows 16 (page p w)) ≡ drop r (rows 16 (page p w))
  here =
      let rs : List (List ℕ) = rows 16 (page p w) in
      let rise : Rising 0 rs = ascend-rising spot.order.one spot.order.two 0 rs spot.order.order in
      let few : Each (λ x. key_of x ≤ most4) (take r rs ++ drop r rs) = rw (take-append-drop r rs) (each_left rs (below 16 (pages w) ys) small) in
      ap (between key most4) (sym (take-append-drop r rs)) ∙ between-append key most4 (take r rs) (drop r rs)
      ∙ rw (
        between_none key most4 (take r rs) (rw er (below-front key rs)),
        between-all key most4 (drop r rs) (rw er (rising-rest key 0 rs rise))
            (each_right (take r rs) (drop r rs) few),
      )

  in_bounds_lem : between key most4 (below 16 (pages w) (below 8 (pages w) (rows 8 (page 0 w)))) ≡ drop r (rows 16 (page p w)) ++ below 16 (pages w) ys
  in_bounds_lem =
      ap (between key most4) cut ∙ between-append key most4 (below 16 (pages w) xs) (rows 16 (page p w) ++ below 16 (pages w) ys)
      ∙ rw (
        between_none key most4 (below 16 (pages w) xs) front_low,
        between-append key most4 (rows 16 (page p w)) (below 16 (pages w) ys),
        here,
        between-all key most4 (below 16 (pages w) ys) back-high (each_right (rows 16 (page p w)) (below 16 (pages w) ys) small),
      )

  behind-is : behind w (place o b i p r) ≡ below 16 (pages w) ys
  unfolding behind from_root ys
  behind-is = sym (below-append 16 (pages w) (drop i rb) (below 8 (pages w) (drop o (rows 8 (page 0 w)))))

  pub found-comes : Comes w (first_from key w) (between key most4 (below 16 (pages w) (below 8 (pages w) (rows 8 (page 0 w)))))
  found-comes =
      let seat : Seat w (place o b i p r) = record { over = over; low = low; spot = spot; high = high } in
      let few : r ≤ count (page p w) = omega (arith, below-most key (rows 16 (page p w)), length-rows 16 (page p w)) in
      let c = settled-comes w s (place o b i p r) seat few in
      rw (seek-at w s key o eo some b eb i ei p ep r er)
      (record { stands = c.stands; left = c.left ∙ ap (λ (l : List (List ℕ)). drop r (rows 16 (page p w)) ++ l) behind-is ∙ sym in_bounds_lem })

-- ---- any key

pub first-comes : (w : List ℕ) → Sound w → Bytes w → (key : ℕ) → Comes w (first_from key w) (between key most4 (all_records (pages w)))
first-comes w s bytes key =
    let o : ℕ = rows_below (key + 1) (rows 8 (page 0 w)) in
    split 0 o
    (λ h. let b : ℕ = entry_to 0 (o - 1) w in
    let i : ℕ = rows_below (key + 1) (rows 8 (page b w)) in
    let p : ℕ = entry_to b (i - 1) w in
    let e : below 16 (pages w) (below 8 (pages w) (rows 8 (page 0 w))) ≡ all_records (pages w) = unfold from_root in all_from w in
    rw (← e) (found-comes w s bytes key o refl h b refl i refl p refl (rows_below key (rows 16 (page p w))) refl))
    (λ h. let z : o ≡ 0 = omega arith in
    let none : all_records (pages w) ≡ [] = sym (all_from w) ∙ from-done w 0 (top-none w s key z) in
    let out : between key most4 [] ≡ [] = unfold between in refl in
    rw (seek-none w s key o refl z, none, out) (record { stands = end-standing w; left = come-end w the_end refl }))
