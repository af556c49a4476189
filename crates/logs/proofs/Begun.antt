-- The ways through the test of a begin record and of its unused fields, for `search`. Assumes nothing.
use Prim.Native.Nat.{ℕ, ◌+◌, ◌-◌, ◌*◌, ◌≤◌, ◌<◌}
use native.Mathlib.Omega.{arith}
use mathlib.Core.Path.{◌≡◌, refl, sym, ap, ◌∙◌}
use mathlib.Core.Bool.{Bool, true, false, not, false≢true}
use mathlib.Core.List.{List, [], ◌∷◌, ◌++◌, append-nil}
use lib.ListN.{length, take, drop, get_or, length-drop}
use lib.Seq.{drop-drop, drop-cons}
use lib.Dec.{eqb, leb}
use borrow.Author.Tests.{eq-eqb, ne_eqb, le-leb, lt-leb, not-true, not-false}
use Rattle.field.specs.Test.{both, all, pick}
use Rattle.field.specs.Bytes.{part, put, zeroes, all_zero, starts, Bytes, le2, bytes2, bytes4, most4}
use Rattle.field.proofs.Test.{both_true, both_false, both_end}
use Rattle.field.proofs.Number.{bytes2-le2, length-bytes2}
use Rattle.field.proofs.Part.{split, part-drop, length_part}
use Rattle.field.proofs.Byte.{bytes_drop}
use Rattle.field.proofs.Gather.{zero-cut, zero-pair}
use Rattle.page.specs.Page.{joined}
use Rattle.logs.specs.Record.{saves, LB, begin, length_of, kind_of, carried, size, header, fields, body, previous, encode}
use Rattle.logs.specs.Table.{kinds, kind_at}
use Rattle.logs.specs.Write.{unit_head}
use Rattle.logs.specs.Log.{on_bases, on_leaves, differ, compact_ok, swap_ok, move_ok, save_ok, type_ok, begin_ok, saves_at, read_fields, read_begin}
use Rattle.logs.specs.Stand.{stands, spare_zero, stands_begin, Whole}
use Rattle.logs.proofs.Record.{length_fields}
use Rattle.logs.proofs.Begin.{Limits, type_ok-limits, begin_ok-limits}
use Rattle.logs.proofs.Fields.{all-fail, length-read_fields}
use Rattle.logs.proofs.Starts.{starts-nil, starts-cat, starts-part, starts-fields, starts-zeroes}
use Rattle.logs.proofs.Stand.{put-front-is, both-none}

-- ---- the loop over fields that must be zero, for `search`: its start, a turn, its ends

module _ (l : List ℕ) (start n : ℕ) where
  pub unused-none! : all_zero (part start (2 * n) l) ≡ all_zero (part (start + 2 * 0) (2 * (n - 0)) l)
  unused-none! =
      let o : start + 2 * 0 ≡ start = omega arith in
      let k : n - 0 ≡ n = omega arith in
      rw (o, k)

  module _ (i : ℕ) (e : all_zero (part start (2 * n) l) ≡ all_zero (part (start + 2 * i) (2 * (n - i)) l)) where
    pub unused-end! : n ≤ i → true ≡ all_zero (part start (2 * n) l)
    unfolding part all_zero
    unused-end! h = let k : 2 * (n - i) ≡ 0 = omega arith in sym (e ∙ rw k)

    module _ (h : i < n) (room : start + 2 * n ≤ length l) (x : ℕ) (q : x ≡ le2 l (start + 2 * i)) where
      field-first : all_zero (part start (2 * n) l) ≡ both (eqb x 0) (all_zero (part (start + 2 * (i + 1)) (2 * (n - (i + 1))) l))
      field-first =
          let k : 2 * (n - i) ≡ 2 + 2 * (n - (i + 1)) = omega arith in
          let o : start + 2 * i + 2 ≡ start + 2 * (i + 1) = omega arith in
          let cut : all_zero (part (start + 2 * i) (2 * (n - i)) l) ≡ both (all_zero (part (start + 2 * i) 2 l)) (all_zero (part (start + 2 * (i + 1)) (2 * (n - (i + 1))) l)) =
          rw (k, ← o) (zero-cut (start + 2 * i) 2 (2 * (n - (i + 1))) l) in
          let one : all_zero (part (start + 2 * i) 2 l) ≡ eqb x 0 = sym (rw q (zero-pair l (start + 2 * i) (omega arith))) in
          e ∙ cut ∙ ap (λ (t : Bool). both t (all_zero (part (start + 2 * (i + 1)) (2 * (n - (i + 1))) l))) one

      pub unused-stop! : (x ≡ 0 → ⊥) → false ≡ all_zero (part start (2 * n) l)
      unused-stop! f = sym (field-first ∙ both_false _ _ (ne_eqb x 0 f))

      pub unused-more! : x ≡ 0 → all_zero (part start (2 * n) l) ≡ all_zero (part (start + 2 * (i + 1)) (2 * (n - (i + 1))) l)
      unused-more! f = field-first ∙ both_true _ _ (eq-eqb x 0 f)

-- ---- a begin record

-- it carries one record at most
pub one-most : (t : Bool) (k : ℕ) → k ≡ pick t 1 0 → k ≤ 1
unfolding pick
one-most true k e = omega arith
one-most false k e = omega arith

module _ (m : List ℕ) where
  -- the counts of pages that the type allows
  pub type-counts : (z : Bool) → z ≡ type_ok (read_begin 0 m) → not z ≡ false → (get_or m 18 0 ≤ 2) × (get_or m 19 0 ≤ 8)
  unfolding read_begin
  type-counts z e h =
      let x : Limits (read_begin 0 m) = type_ok-limits (read_begin 0 m) (sym e ∙ not-false z h) in
      (rw (length-read_fields (get_or m 18 0) (drop 20 m)) at x.bases, rw (length-read_fields (get_or m 19 0) (drop 24 m)) at x.leaves)

  pub begin-counts : (z : Bool) → z ≡ begin_ok (read_begin 0 m) → not z ≡ false → (get_or m 18 0 ≤ 2) × (get_or m 19 0 ≤ 8)
  unfolding read_begin
  begin-counts z e h =
      let x : Limits (read_begin 0 m) = begin_ok-limits (read_begin 0 m) (sym e ∙ not-false z h) in
      (rw (length-read_fields (get_or m 18 0) (drop 20 m)) at x.bases, rw (length-read_fields (get_or m 19 0) (drop 24 m)) at x.leaves)

  begin_tests : (b c : ℕ) → List Bool
  begin_tests b c =
      type_ok (read_begin 0 m) ∷ on_bases (read_fields b (drop 20 m)) ∷ differ (read_fields b (drop 20 m)) ∷ on_leaves (read_fields c (drop 24 m)) ∷ differ (read_fields c (drop 24 m)) ∷ []

  -- it carries one record where its type says so
  saved-count : (t : Bool) (r : List ℕ) → eqb (length (pick t (r ∷ []) [])) (pick t 1 0) ≡ true
  unfolding pick
  saved-count true r = eq-eqb 1 1 refl
  saved-count false r = eq-eqb 0 0 refl

  begin-is : all (begin_tests (get_or m 18 0) (get_or m 19 0)) ≡ begin_ok (read_begin 0 m)
  unfolding begin_tests begin_ok read_begin all both saves saves_at
  begin-is =
      let z : true ≡ eqb (length (pick (leb 4 (get_or m 16 0)) (part 44 16 m ∷ []) [])) (pick (leb 4 (get_or m 16 0)) 1 0) =
      sym (saved-count (leb 4 (get_or m 16 0)) (part 44 16 m)) in
      rw (le-leb 0 most4 (omega arith)) (ap rest z)
    where
      rest : Bool → Bool
      rest t =
          both (type_ok (read_begin 0 m)) (both (on_bases (read_fields (get_or m 18 0) (drop 20 m))) (both (differ (read_fields (get_or m 18 0) (drop 20 m)))
          (both (on_leaves (read_fields (get_or m 19 0) (drop 24 m))) (both (differ (read_fields (get_or m 19 0) (drop 24 m))) (both t true)))))

  pub begin-type! : (z : Bool) → z ≡ type_ok (read_begin 0 m) → not z ≡ true → false ≡ begin_ok (read_begin 0 m)
  unfolding begin_tests
  begin-type! z e h = all-fail (begin_tests (get_or m 18 0) (get_or m 19 0)) 0 (sym e ∙ not-true z h) ∙ begin-is

  module _ (b : ℕ) (pb : b ≡ get_or m 18 0) (z : Bool) where
    pub begin-bases! : z ≡ on_bases (read_fields b (drop 20 m)) → not z ≡ true → false ≡ begin_ok (read_begin 0 m)
    unfolding begin_tests
    begin-bases! e h = all-fail (begin_tests (get_or m 18 0) (get_or m 19 0)) 1 (rw (← pb) (sym e ∙ not-true z h)) ∙ begin-is

    pub begin-differ! : z ≡ differ (read_fields b (drop 20 m)) → not z ≡ true → false ≡ begin_ok (read_begin 0 m)
    unfolding begin_tests
    begin-differ! e h = all-fail (begin_tests (get_or m 18 0) (get_or m 19 0)) 2 (rw (← pb) (sym e ∙ not-true z h)) ∙ begin-is

  pub begin-leaves! : (c : ℕ) (pc : c ≡ get_or m 19 0) (z : Bool) → z ≡ on_leaves (read_fields c (drop 24 m)) → not z ≡ true → false ≡ begin_ok (read_begin 0 m)
  unfolding begin_tests
  begin-leaves! c pc z e h = all-fail (begin_tests (get_or m 18 0) (get_or m 19 0)) 3 (rw (← pc) (sym e ∙ not-true z h)) ∙ begin-is

  pub begin-rest! : (b : ℕ) (pb : b ≡ get_or m 18 0) (c : ℕ) (pc : c ≡ get_or m 19 0) (z : Bool) → z ≡ differ (read_fields c (drop 24 m))
      → (t : Bool) → t ≡ type_ok (read_begin 0 m) → not t ≡ false → (u : Bool) → u ≡ on_bases (read_fields b (drop 20 m)) → not u ≡ false
      → (v : Bool) → v ≡ differ (read_fields b (drop 20 m)) → not v ≡ false → (w : Bool) → w ≡ on_leaves (read_fields c (drop 24 m)) → not w ≡ false
      → z ≡ begin_ok (read_begin 0 m)
  unfolding begin_tests all both
  begin-rest! b pb c pc z e t et ht u eu hu v ev hv w ew hw =
      sym (sym begin-is ∙ rw (← pb, ← pc, ← et, ← eu, ← ev, ← ew, ← e, not-false t ht, not-false u hu, not-false v hv, not-false w hw) (both_end z))

  -- the unit number counts only by its size
  begin-unit : (u : ℕ) → u ≤ most4 → begin_ok (read_begin u m) ≡ begin_ok (read_begin 0 m)
  unfolding begin_ok read_begin type_ok compact_ok swap_ok move_ok save_ok saves
  begin-unit u h = rw (le-leb u most4 h, le-leb 0 most4 (omega arith))

  -- the record that a begin record carries, as bytes
  borne : List ℕ
  borne = joined (pick (saves_at m) (part 44 16 m ∷ []) [])

  borne-by : (t : Bool) → (t ≡ true → 60 ≤ length m) → starts (joined (pick t (part 44 16 m ∷ []) [])) (drop 44 m) ≡ true
  unfolding pick joined
  borne-by true h = rw (append-nil (part 44 16 m)) (starts-part 44 16 m (h refl))
  borne-by false h = starts-nil (drop 44 m)

  -- it stands where it was read
  borne-there : Whole m → starts borne (drop 44 m) ≡ true
  unfolding borne
  borne-there h = borne-by (saves_at m) (unfold length_of in h.record-too)

  one-borne : (t : Bool) (r : List ℕ) → length (pick t (r ∷ []) []) ≡ pick t 1 0
  unfolding pick
  one-borne true r = refl
  one-borne false r = refl

  module _ (n u : ℕ) where
    -- a begin record's front
    pub front : List ℕ
    front = unit_head begin (pick (saves_at m) 1 0) n 0 u

    -- a begin record's bytes behind its unit number
    tail : List ℕ
    tail = part 16 4 m ++ (fields 2 (read_fields (get_or m 18 0) (drop 20 m)) ++ (fields 8 (read_fields (get_or m 19 0) (drop 24 m)) ++ (bytes2 (le2 m 40) ++ (bytes2 0 ++ borne))))

    four : 44 ≤ length m → part 16 4 m ≡ get_or m 16 0 ∷ get_or m 17 0 ∷ get_or m 18 0 ∷ get_or m 19 0 ∷ []
    unfolding part
    four h = rw (drop-cons m 16 0 (omega arith), drop-cons m 17 0 (omega arith), drop-cons m 18 0 (omega arith), drop-cons m 19 0 (omega arith))

    encode-begin : 44 ≤ length m → encode n (LB (read_begin u m)) ≡ front ++ tail
    unfolding front tail borne encode body previous kind_of size carried unit_head read_begin header bytes2 bytes4
    encode-begin h =
        rw (four h, length-read_fields (get_or m 18 0) (drop 20 m), length-read_fields (get_or m 19 0) (drop 24 m), one-borne (saves_at m) (part 44 16 m))

    -- the last field, and the record behind it
    last : Whole m → starts (bytes2 0 ++ borne) (drop 42 m) ≡ all_zero (part 42 2 m)
    unfolding part
    last h =
        let k : 44 ≤ length m = h.fields in
        let e : bytes2 0 ≡ zeroes 2 = unfold bytes2 zeroes in refl in
        let z : starts (bytes2 0) (drop 42 m) ≡ all_zero (take 2 (drop 42 m)) = rw e (starts-zeroes 2 (drop 42 m) (rw (length-drop 42 m) (omega arith))) in
        starts-cat (bytes2 0) borne (drop 42 m) 2 (length-bytes2 0) (rw (length-drop 42 m) (omega arith))
        ∙ rw (drop-drop 2 42 m, borne-there h, z) (both_end _)

    length_front : length front ≡ 16
    unfolding front unit_head header bytes2 bytes4
    length_front = refl

    -- a begin record stands there where its front does, and what it leaves unused is zero
    pub starts-begin : Bytes m → Whole m → get_or m 18 0 ≤ 2 → get_or m 19 0 ≤ 8
        → starts (encode n (LB (read_begin u m))) m ≡ both (starts front m) (spare_zero m)
    unfolding spare_zero all tail
    starts-begin y w p q =
        let h : 44 ≤ length m = w.fields in
        let b : ℕ = get_or m 18 0 in
        let c : ℕ = get_or m 19 0 in
        let ld : (k : ℕ) → length (drop k m) ≡ length m - k = λ k. length-drop k m in
        let eb : 2 * 2 - 2 * b ≡ 24 - (20 + 2 * b) = omega arith in
        let ec : 2 * 8 - 2 * c ≡ 40 - (24 + 2 * c) = omega arith in
        let z : starts (bytes2 0 ++ borne) (drop 42 m) ≡ all_zero (part 42 2 m) = last w in
        let d : starts (bytes2 (le2 m 40) ++ (bytes2 0 ++ borne)) (drop 40 m) ≡ all_zero (part 42 2 m) =
        starts-cat (bytes2 (le2 m 40)) (bytes2 0 ++ borne) (drop 40 m) 2 (length-bytes2 (le2 m 40)) (omega (arith, ld 40))
        ∙ both_true _ _ (rw (bytes2-le2 m 40 y (omega arith)) (starts-part 40 2 m (omega arith)))
        ∙ rw (drop-drop 2 40 m) z in
        let g : starts (fields 8 (read_fields c (drop 24 m)) ++ (bytes2 (le2 m 40) ++ (bytes2 0 ++ borne))) (drop 24 m)
        ≡ both (all_zero (part (24 + 2 * c) (40 - (24 + 2 * c)) m)) (all_zero (part 42 2 m)) =
        starts-cat (fields 8 (read_fields c (drop 24 m))) _ (drop 24 m) 16 (length_fields 8 _) (omega (arith, ld 24))
        ∙ rw (starts-fields 8 c (drop 24 m) (bytes_drop 24 m y) q (omega (arith, ld 24)), part-drop 24 (2 * c) (2 * 8 - 2 * c) m, ec, drop-drop 16 24 m, d) in
        let f : starts (fields 2 (read_fields b (drop 20 m)) ++ (fields 8 (read_fields c (drop 24 m)) ++ (bytes2 (le2 m 40) ++ (bytes2 0 ++ borne)))) (drop 20 m)
        ≡ both (all_zero (part (20 + 2 * b) (24 - (20 + 2 * b)) m)) (both (all_zero (part (24 + 2 * c) (40 - (24 + 2 * c)) m)) (all_zero (part 42 2 m))) =
        starts-cat (fields 2 (read_fields b (drop 20 m))) _ (drop 20 m) 4 (length_fields 2 _) (omega (arith, ld 20))
        ∙ rw (starts-fields 2 b (drop 20 m) (bytes_drop 20 m y) p (omega (arith, ld 20)), part-drop 20 (2 * b) (2 * 2 - 2 * b) m, eb, drop-drop 4 20 m, g) in
        let t : starts tail (drop 16 m)
        ≡ both (all_zero (part (20 + 2 * b) (24 - (20 + 2 * b)) m)) (both (all_zero (part (24 + 2 * c) (40 - (24 + 2 * c)) m)) (all_zero (part 42 2 m))) =
        starts-cat (part 16 4 m) _ (drop 16 m) 4 (length_part 16 4 m (omega arith)) (omega (arith, ld 16))
        ∙ both_true _ _ (starts-part 16 4 m (omega arith))
        ∙ rw (drop-drop 4 16 m) f in
        rw (encode-begin h, both_end (all_zero (part 42 2 m)))
        (starts-cat front tail m 16 length_front (omega arith) ∙ rw t)

  -- ---- the zeros that a begin record leaves

  spare_tests : (v w : ℕ) → List Bool
  spare_tests v w = all_zero (part (20 + 2 * v) (2 * (2 - v)) m) ∷ all_zero (part (24 + 2 * w) (2 * (8 - w)) m) ∷ all_zero (part 42 2 m) ∷ []

  spare-is : all (spare_tests (get_or m 18 0) (get_or m 19 0)) ≡ spare_zero m
  unfolding spare_tests spare_zero
  spare-is =
      let b : 24 - (20 + 2 * get_or m 18 0) ≡ 2 * (2 - get_or m 18 0) = omega arith in
      let c : 40 - (24 + 2 * get_or m 19 0) ≡ 2 * (8 - get_or m 19 0) = omega arith in
      rw (b, c)

  module _ (v w : ℕ) (p : v ≡ get_or m 18 0) (q : w ≡ get_or m 19 0) (x : Bool) where
    spare_of : all (spare_tests v w) ≡ spare_zero m
    spare_of = rw (p, q) spare-is

    pub spare-bases! : x ≡ all_zero (part (20 + 2 * v) (2 * (2 - v)) m) → not x ≡ true → false ≡ spare_zero m
    unfolding spare_tests
    spare-bases! e h = all-fail (spare_tests v w) 0 (sym e ∙ not-true x h) ∙ spare_of

    pub spare-leaves! : x ≡ all_zero (part (24 + 2 * w) (2 * (8 - w)) m) → not x ≡ true → false ≡ spare_zero m
    unfolding spare_tests
    spare-leaves! e h = all-fail (spare_tests v w) 1 (sym e ∙ not-true x h) ∙ spare_of

    pub spare-rest! : x ≡ all_zero (part 42 2 m) → (y z : Bool) → y ≡ all_zero (part (20 + 2 * v) (2 * (2 - v)) m) → not y ≡ false
        → z ≡ all_zero (part (24 + 2 * w) (2 * (8 - w)) m) → not z ≡ false → x ≡ spare_zero m
    unfolding spare_tests all both
    spare-rest! e y z f hy g hz = sym (sym spare_of ∙ rw (← f, ← g, ← e, not-false y hy, not-false z hz) (both_end x))

  -- ---- the whole record

  pub begin-long : (u : ℕ) → size (LB (read_begin u m)) ≡ length_of begin (pick (saves_at m) 1 0)
  unfolding size carried kind_of read_begin
  begin-long u = ap (length_of begin) (one-borne (saves_at m) (part 44 16 m))

  -- there is room for its fields, or even for the record that it carries
  pub whole-tidies : 44 ≤ length m → saves_at m ≡ false → Whole m
  whole-tidies h v = record { fields = h; record-too = λ w. absurd (false≢true (sym v ∙ w)) }

  pub whole-saves : 60 ≤ length m → Whole m
  unfolding length_of
  whole-saves h = record { fields = omega (arith, h); record-too = λ v. h }

  save-short : (t : Bool) → saves_at m ≡ t → (44 ≤ length m → saves_at m ≡ true) → length m < 60 → length m < length_of begin (pick t 1 0)
  unfolding length_of pick
  save-short true v f h = h
  save-short false v f h = split (length m) 44 (λ q. q) (λ q. absurd (false≢true (sym v ∙ f q)))

  module _ (n u : ℕ) where
    -- where a put's or a delete's would be, there is no room for it
    pub save-cut! : (44 ≤ length m → saves_at m ≡ true) → length m < 60 → false ≡ stands_begin n u m
    unfolding stands_begin stands all
    save-cut! f h =
        let k : length m < size (LB (read_begin u m)) = rw (begin-long u) (save-short (saves_at m) refl f h) in
        sym (both-none _ _ (both-none (leb n most4) _ (both_false _ _ (lt-leb (size (LB (read_begin u m))) (length m) k))))

    module _ (ku : u ≤ most4) where
      pub begin-bad! : (z : Bool) → z ≡ begin_ok (read_begin 0 m) → not z ≡ true → false ≡ stands_begin n u m
      unfolding stands_begin
      begin-bad! z e h = sym (both_false _ _ (begin-unit u ku ∙ sym e ∙ not-true z h))

      module _ (kn : n ≤ most4) (y : Bytes m) (h : Whole m) (z : Bool) (e : z ≡ begin_ok (read_begin 0 m)) (f : not z ≡ false) where
        room_for : (t : Bool) → saves_at m ≡ t → length_of begin (pick t 1 0) ≤ length m
        unfolding pick
        room_for true v = h.record-too v
        room_for false v = unfold length_of in h.fields

        found : stands_begin n u m ≡ both (starts (front n u) m) (spare_zero m)
        unfolding stands_begin stands all
        found =
            let k = begin-counts z e f in
            both_true _ _ (begin-unit u ku ∙ sym e ∙ not-false z f)
            ∙ both_true _ _ (le-leb n most4 kn)
            ∙ both_true _ _ (le-leb (size (LB (read_begin u m))) (length m) (rw (begin-long u) (room_for (saves_at m) refl)))
            ∙ both_end _
            ∙ starts-begin n u y h k.0 k.1

        pub begin-spare! : (x : Bool) → x ≡ spare_zero m → not x ≡ true → false ≡ stands_begin n u m
        begin-spare! x q g = sym (found ∙ both-none _ _ (sym q ∙ not-true x g))

        pub begin-whole! : (x : Bool) → x ≡ spare_zero m → not x ≡ false → (k : ℕ) → k ≡ pick (saves_at m) 1 0 → (e : ℕ) → e ≡ length_of (kind_at 5) 0
            → (w : Bool) (b c : List ℕ) → w ≡ starts (take e b) (drop 0 m) → b ≡ put 0 (unit_head (kind_at 1) k n 0 u) c → w ≡ stands_begin n u m
        unfolding length_of kind_at kinds
        begin-whole! x q g k ek e p w b c i j =
            let r : put 0 (unit_head begin k n 0 u) c ≡ put 0 (front n u) c = unfold front in rw ek in
            let v : w ≡ starts (front n u) m = i ∙ rw (p, j, r, put-front-is (front n u) c 16 (length_front n u)) in
            v ∙ sym (found ∙ rw (← q, not-false x g) (both_end _))
