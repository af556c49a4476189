-- Each answer of one step, as a law: which tests held, and that the reply and both buffers are those of the definition. Assumes nothing.
use Prim.Native.Nat.{ℕ, ◌+◌, ◌-◌, ◌*◌, ◌≤◌, ◌<◌}
use native.Mathlib.Omega.{arith}
use mathlib.Core.Path.{◌≡◌, refl, sym, ap, ◌∙◌}
use mathlib.Core.Bool.{Bool, true, false, not, false≢true}
use mathlib.Core.List.{List, [], ◌∷◌}
use mathlib.Core.Option.{Option, some, none}
use lib.ListN.{length, take, drop}
use lib.Dec.{leb}
use borrow.Author.Tests.{le-leb, lt-leb, leb-true, not-true, not-false}
use borrow.Author.Rules.{part_to_end}
use Rattle.field.specs.Test.{need, given, when, bind, there}
use Rattle.field.specs.Bytes.{part, put, most4}
use Rattle.field.proofs.Test.{pick-false, need-true, need-false, given-some, given-none, when_true, when_false, there-some}
use Rattle.field.proofs.Part.{split, length_part, part-part, drop-cut, lent-part}
use Rattle.page.specs.Page.{rows_of, ascend_records, count, rows, entries, records, is_base, is_leaf}
use Rattle.page.specs.Pages.{page}
use Rattle.page.proofs.Rows.{length-rows_of, rows_of-front}
use Rattle.page.proofs.Changes.{leaf-takes}
use Rattle.page.proofs.Pages.{lent-page}
use Rattle.logs.specs.Record.{Rec, LO, LI, LM, LE, length_of, encode}
use Rattle.logs.specs.Plan.{Step, take_out, bring_in, point, close, plan}
use Rattle.logs.specs.Log.{Open, State, after, read_begin, at_end, taken}
use Rattle.logs.specs.Scan.{shown}
use Rattle.logs.specs.Source.{source_at, source_rows, sourced}
use Rattle.logs.specs.Write.{in_bytes}
use Rattle.logs.specs.declared.scan.Walk.{Walk}
use Rattle.logs.proofs.Puts.{encode-in}
use Rattle.logs.proofs.Laid.{Sourced}
use Rattle.logs.proofs.Toward.{toward-source}
use Rattle.unit.specs.Next.{targets, apply, target_of, page_of, lowest_to, skipped, next_rec, step_size, room, places_of}
use Rattle.unit.specs.Made.{key_in, Did}
use Rattle.unit.specs.declared.entry.Lowest.{Lowest}
use Rattle.unit.specs.declared.entry.Lowest.TheVariants.{Nothing, Key}
use Rattle.unit.proofs.Pagewise.{apply-stays}
use Rattle.unit.proofs.Applied.{out-own, can-page}
use Rattle.store.specs.Calls.{Went, stopped, went, did_of, append}
use Rattle.unit.specs.Again.{next_step}
use Rattle.forward.specs.Appends.{append_first, append_open, append_next, reply_in, work_in, log_in, Goes, to_come, tested}
use Rattle.forward.proofs.Stands.{Stands, at-is, number_is, steps-are, todo-is, skip_is}

-- ---- what the code leaves

goes-stopped : (o : Went) (w l : List ℕ) (r : ℕ) → o ≡ stopped r → Goes o w l r w l
unfolding reply_in work_in log_in
goes-stopped o w l r e = record { reply-is = rw e; work-is = rw e; log_is = rw e }

goes-went : (o : Went) (w l : List ℕ) (s : State) (v m : List ℕ) → o ≡ went s v m → Goes o w l 0 v m
unfolding reply_in work_in log_in
goes-went o w l s v m e = record { reply-is = rw e; work-is = rw e; log_is = rw e }

-- ---- tests 6 and 7

-- by two tests
stops : (a b : Bool) (z : Went) (k : ℕ) → k ≡ need a 6 (need b 7 0) → (k ≡ 0 → ⊥) → need a (stopped 6) (need b (stopped 7) z) ≡ stopped k
unfolding need
stops true true z k e h = absurd (h e)
stops true false z k e h = ap stopped (sym e)
stops false b z k e h = ap stopped (sym e)

passes : (a b : Bool) → ◌≡◌ {A = ℕ} (need a 6 (need b 7 0)) 0 → (a ≡ true) × (b ≡ true)
unfolding need
passes true true e = (refl, refl)
passes true false e = absurd (let z : ⊥ = omega arith in z)
passes false b e = absurd (let z : ⊥ = omega arith in z)

pub tested-ok : (end n : ℕ) → tested end n ≡ 0 → (end ≤ 8192) × (n ≤ most4)
unfolding tested
tested-ok end n e = let p = passes (leb end 8192) (leb n most4) e in (leb-true end 8192 p.0, leb-true n most4 p.1)

-- what remains, as it is counted off the part of the log from the begin record on
module _ (work l : List ℕ) (w : Walk) (bytes : ℕ)
    (e : bytes ≡ room work (drop w.done (plan (read_begin w.unit.0 (take (length l - w.begin) (drop w.begin l)))))) where
  bytes-are : bytes ≡ room work (to_come l w)
  unfolding to_come
  bytes-are = e ∙ rw part_to_end

  module _ (long : length l ≡ 8192) (inside : w.at ≤ length l) where
    pub admit-full : length l - w.at < bytes → 6 ≡ tested (w.at + room work (to_come l w)) (w.number.0 + 1)
    unfolding tested
    admit-full h = sym (need-false _ 6 _ (lt-leb (w.at + room work (to_come l w)) 8192 (omega (arith, bytes-are))))

    module _ (h : bytes ≤ length l - w.at) where
      fits : leb (w.at + room work (to_come l w)) 8192 ≡ true
      fits = le-leb (w.at + room work (to_come l w)) 8192 (omega (arith, bytes-are))

      pub admit-last : w.number.0 ≡ 4294967295 → 7 ≡ tested (w.at + room work (to_come l w)) (w.number.0 + 1)
      unfolding tested
      admit-last k = sym (need-true _ 6 _ fits ∙ need-false _ 7 0 (lt-leb (w.number.0 + 1) most4 (omega arith)))

      pub admit-ok : (w.number.0 ≡ 4294967295 → ⊥) → w.number.0 ≤ most4 → 0 ≡ tested (w.at + room work (to_come l w)) (w.number.0 + 1)
      unfolding tested
      admit-ok k small = sym (need-true _ 6 _ fits ∙ need-true _ 7 0 (le-leb (w.number.0 + 1) most4 (below w.number.0 k small)))
        where
          below : (n : ℕ) → (n ≡ 4294967295 → ⊥) → n ≤ 4294967295 → n + 1 ≤ 4294967295
          below n k small = split n 4294967295 (λ a. omega arith) (λ a. absurd (k (omega arith)))

-- ---- the step x, whatever its kind

did-is : (s : State) (o : Open) → s.opened ≡ some o → did_of s.opened ≡ o.did
unfolding did_of
did-is s o e = rw e

there-none : (o : Option (List ℕ)) → there o ≡ false → o ≡ none
unfolding there
there-none none e = refl
there-none (some x) e = absurd (false≢true (sym e))

-- a change that can be made, and was
pub did_made : (o : Option (List ℕ)) (w : List ℕ) (z : Bool) (v : List ℕ) → there o ≡ true → Did o w z v → o ≡ some v
unfolding there given
did_made none w z v t d = absurd (false≢true t)
did_made (some x) w z v t d = ap some (sym d.left)

module _ (work : List ℕ) {l : List ℕ} {w : Walk} (s : Stands l w) (x : Step) (next : next_step l w ≡ x) where
  pub next-append : append_next work l ≡ append x s.next.others (at_end s.log) work l
  unfolding append_next append_open append_first given
  next-append = rw (s.read, s.opened) (pick-false _ _ _ s.plain ∙ rw (todo-is s x next))

  -- the record, given the page that it changes
  abbrev recs : Option Rec
  recs = next_rec x s.unit.did (page_of (target_of x) work)

  ends_at : (at_end s.log).at + room work (x ∷ s.next.others) ≡ w.at + room work (to_come l w)
  ends_at = rw (steps-are s, todo-is s x next, at-is s)

  pub append-none : recs ≡ none → append_next work l ≡ stopped 5
  unfolding append
  append-none q =
      next-append ∙ given-none (next_rec x (did_of (at_end s.log).opened) (page_of (target_of x) work)) (stopped 5) _ (rw (did-is (at_end s.log) s.unit s.opened) q)

  module _ (r : Rec) (q : recs ≡ some r) where
    with-record : append_next work l ≡ given (apply (w.number.0 + 1) r work) (stopped 5) (λ v.
        need (leb (w.at + room work (to_come l w)) 8192) (stopped 6)
        (need (leb (w.number.0 + 1) most4) (stopped 7) (went (after (at_end s.log) r) v (put w.at (encode (w.number.0 + 1) r) l))))
    unfolding append
    with-record =
        next-append
        ∙ given-some (next_rec x (did_of (at_end s.log).opened) (page_of (target_of x) work)) r (stopped 5) _ (rw (did-is (at_end s.log) s.unit s.opened) q)
        ∙ rw (ends_at, ← (number_is s), ← (at-is s))

    pub append-stuck : there (apply (w.number.0 + 1) r work) ≡ false → append_next work l ≡ stopped 5
    append-stuck f = with-record ∙ given-none _ (stopped 5) _ (there-none _ f)

    module _ (made : there (apply (w.number.0 + 1) r work) ≡ true) where
      pub append-stops : (k : ℕ) → k ≡ tested (w.at + room work (to_come l w)) (w.number.0 + 1) → (k ≡ 0 → ⊥) → append_next work l ≡ stopped k
      unfolding tested
      append-stops k e h = with-record ∙ by-change (apply (w.number.0 + 1) r work) made
        where
          by-change : (o : Option (List ℕ)) → there o ≡ true
              → given o (stopped 5) (λ v. need (leb (w.at + room work (to_come l w)) 8192) (stopped 6)
              (need (leb (w.number.0 + 1) most4) (stopped 7) (went (after (at_end s.log) r) v (put w.at (encode (w.number.0 + 1) r) l)))) ≡ stopped k
          by-change none t = absurd (false≢true (unfold there in t))
          by-change (some v) t = unfold given in (stops (leb (w.at + room work (to_come l w)) 8192) (leb (w.number.0 + 1) most4) _ k e h)

    pub append-goes : (v m : List ℕ) → tested (w.at + room work (to_come l w)) (w.number.0 + 1) ≡ 0 → apply (w.number.0 + 1) r work ≡ some v
        → m ≡ put w.at (encode (w.number.0 + 1) r) l → append_next work l ≡ went (after (at_end s.log) r) v m
    append-goes v m e a p =
        let t = tested-ok (w.at + room work (to_come l w)) (w.number.0 + 1) e in
        with-record ∙ given-some _ v (stopped 5) _ a ∙ need-true _ (stopped 6) _ (le-leb _ 8192 t.0) ∙ need-true _ (stopped 7) _ (le-leb _ most4 t.1) ∙ ap
        (went (after (at_end s.log) r) v) (sym p)

  -- there is room for the record itself
  pub record-room : tested (w.at + room work (to_come l w)) (w.number.0 + 1) ≡ 0 → w.at + step_size work x ≤ 8192
  unfolding room
  record-room e =
      let t = tested-ok (w.at + room work (to_come l w)) (w.number.0 + 1) e in
      let r : room work (to_come l w) ≡ step_size work x + room work s.next.others = rw (steps-are s, todo-is s x next) in
      omega (arith, t.0)

-- ---- rows in a part

rows-part : (o k : ℕ) (l : List ℕ) → o + 16 * k ≤ length l → rows_of 16 k (part o (16 * k) l) ≡ rows_of 16 k (drop o l)
rows-part o k l h =
    let n : length (part o (16 * k) l) ≡ 16 * k = length_part o (16 * k) l h in
    rw (drop-cut o (16 * k) l) (sym (rows_of-front 16 k (part o (16 * k) l) (drop (o + 16 * k) l) (omega arith)))

-- as the code lends them
pub lent_rows : (o k : ℕ) (l : List ℕ) → o + 16 * k ≤ length l → rows_of 16 k (take (o + 16 * k - o) (drop o l)) ≡ rows_of 16 k (drop o l)
lent_rows o k l h = rw (lent-part o (16 * k) l) (rows-part o k l h)

pub length-lent : (o k : ℕ) (l : List ℕ) → o + 16 * k ≤ length l → length (take (o + 16 * k - o) (drop o l)) ≡ 16 * k
length-lent o k l h = rw (lent-part o (16 * k) l) (length_part o (16 * k) l h)

-- ---- LO

module _ (work : List ℕ) {l : List ℕ} {w : Walk} (s : Stands l w) (org dest : ℕ) (next : next_step l w ≡ take_out org dest) where
  -- the page, as the code lends it
  module _ (z : Bool) (e : z ≡ is_leaf (take (256 * org + 256 - 256 * org) (drop (256 * org) work))) where
    is-page : z ≡ is_leaf (page org work)
    is-page = e ∙ rw (lent-page org work)

    pub out-leaf : not z ≡ false → is_leaf (page org work) ≡ true
    out-leaf h = sym is-page ∙ not-false z h

    pub out-refused : not z ≡ true → Goes (append_next work l) work l 5 work l
    unfolding next_rec target_of page_of
    out-refused h = goes-stopped _ work l 5 (append-none work s (take_out org dest) next (when_false _ _ (sym is-page ∙ not-true z h)))

  module _ (h : is_leaf (page org work) ≡ true) where
    out-record : next_rec (take_out org dest) s.unit.did (page_of (target_of (take_out org dest)) work) ≡ some (LO org dest (records (page org work)))
    unfolding next_rec target_of page_of
    out-record = when_true _ _ h

    pub out-stopped : (k : ℕ) → k ≡ tested (w.at + room work (to_come l w)) (w.number.0 + 1) → (k ≡ 0 → ⊥) → Goes (append_next work l) work l k work l
    out-stopped k e f =
        goes-stopped _ work l k
        (append-stops work s (take_out org dest) next _ out-record (there-some _ _ (out-own work org (w.number.0 + 1) h _ refl dest)) k e f)

    module _ (k : ℕ) (e : k ≡ tested (w.at + room work (to_come l w)) (w.number.0 + 1)) (f : k ≡ 0) (c : ℕ) (g : c ≡ count (page org work)) where
      pub out-few : c ≤ 15
      out-few = omega (arith, (leaf-takes (page org work) h).few)

      pub out-room : w.at + 20 + 16 * c ≤ 8192
      unfolding step_size length_of
      out-room = let r : w.at + (20 + 16 * count (page org work)) ≤ 8192 = record-room work s (take_out org dest) next (sym e ∙ f) in omega arith

      pub out-goes : (v m : List ℕ) → length work ≡ 16384 → org < 64 → ((to : ℕ) → apply (w.number.0 + 1) (LO org to (records (page org work))) work ≡ some v)
          → m ≡ put w.at (encode (w.number.0 + 1) (LO org dest (rows_of 16 c (take (256 * org + 16 + 16 * c - (256 * org + 16)) (drop (256 * org + 16) work))))) l
          → Goes (append_next work l) work l 0 v m
      unfolding rows page
      out-goes v m whole small a p =
          let few : c ≤ 15 = out-few in
          let fits : 256 * org + 16 + 16 * c ≤ length work = omega arith in
          let inside : 16 + 16 * c ≤ length (page org work) = omega (arith, length_part (256 * org) 256 work (omega arith)) in
          let one : rows_of 16 c (part 16 (16 * c) (page org work)) ≡ rows_of 16 c (drop 16 (page org work)) = rows-part 16 c (page org work) inside in
          let two : part 16 (16 * c) (page org work) ≡ part (256 * org + 16) (16 * c) work = part-part 16 (16 * c) (256 * org) 256 work (omega arith) (omega arith) in
          let q : rows_of 16 c (take (256 * org + 16 + 16 * c - (256 * org + 16)) (drop (256 * org + 16) work)) ≡ records (page org work) =
          rw (lent-part (256 * org + 16) (16 * c) work, ← two) one ∙ ap (λ (k : ℕ). rows_of 16 k (drop 16 (page org work))) g in
          goes-went _ work l _ v m
          (append-goes work s (take_out org dest) next _ out-record v m (sym e ∙ f) (a dest)
          (p ∙ ap (λ (rs : List (List ℕ)). put w.at (encode (w.number.0 + 1) (LO org dest rs)) l) q))

-- ---- LI

module _ (work : List ℕ) {l : List ℕ} {w : Walk} (s : Stands l w) (org dest back : ℕ) (next : next_step l w ≡ bring_in org dest back) where
  source : Sourced l (at_end s.log) s.unit.did back
  source = toward-source s.toward s.opened s.plain (todo-is s (bring_in org dest back) next)

  -- the records of its LO, by numbers
  module _ (k from : ℕ) (e : k ≡ source_rows w back) (f : from ≡ source_at w back) where
    rows_are : length (taken back s.unit.did) ≡ k
    rows_are = sym source.count ∙ sym (ap (λ (x : Walk). source_rows x back) s.walk) ∙ sym e

    pub in_some : (1 ≤ k) × (k ≤ 15)
    in_some = (omega (arith, rows_are, source.moved.some-rows), omega (arith, rows_are, source.moved.few-rows))

    pub in-inside : from + 20 + 16 * k ≤ length l
    in-inside =
        let p : source_at (shown (at_end s.log)) back ≡ from = sym (f ∙ ap (λ (x : Walk). source_at x back) s.walk) in
        let q : source_rows (shown (at_end s.log)) back ≡ k = sym (e ∙ ap (λ (x : Walk). source_rows x back) s.walk) in
        rw (← p, ← q) source.room

    in_rows : rows_of 16 k (take (from + 20 + 16 * k - (from + 20)) (drop (from + 20) l)) ≡ taken back s.unit.did
    unfolding sourced
    in_rows =
        lent_rows (from + 20) k l in-inside ∙ rw (e, f) refl
        ∙ ap (λ (x : Walk). rows_of 16 (source_rows x back) (drop (source_at x back + 20) l)) s.walk ∙ source.rows

    pub in-long : length (take (from + 20 + 16 * k - (from + 20)) (drop (from + 20) l)) ≡ 16 * k
    in-long = length-lent (from + 20) k l in-inside

    pub in_order_lem : ascend_records 0 (rows_of 16 k (take (from + 20 + 16 * k - (from + 20)) (drop (from + 20) l))) ≡ true
    in_order_lem = rw in_rows source.moved.order

    in-record : next_rec (bring_in org dest back) s.unit.did (page_of (target_of (bring_in org dest back)) work)
        ≡ some (LI org dest back (rows_of 16 k (take (from + 20 + 16 * k - (from + 20)) (drop (from + 20) l))))
    unfolding next_rec
    in-record = rw in_rows

    module _ (z : Bool) (can : (n org back : ℕ) → z ≡ there (apply n (LI org dest back (rows_of 16 k (take (from + 20 + 16 * k - (from + 20)) (drop (from + 20) l)))) work)) where
      pub in-refused : not z ≡ true → Goes (append_next work l) work l 5 work l
      in-refused h =
          goes-stopped _ work l 5 (append-stuck work s (bring_in org dest back) next _ in-record (sym (can (w.number.0 + 1) org back) ∙ not-true z h))

      module _ (h : not z ≡ false) (t : ℕ) (g : t ≡ tested (w.at + room work (to_come l w)) (w.number.0 + 1)) where
        pub in-stopped : (t ≡ 0 → ⊥) → Goes (append_next work l) work l t work l
        in-stopped j =
            goes-stopped _ work l t (append-stops work s (bring_in org dest back) next _ in-record (sym (can (w.number.0 + 1) org back) ∙ not-false z h) t g j)

        pub in-goes : t ≡ 0 → (y : Bool) (v m : List ℕ)
            → ((org back : ℕ) → Did (apply (w.number.0 + 1) (LI org dest back (rows_of 16 k (take (from + 20 + 16 * k - (from + 20)) (drop (from + 20) l)))) work) work y v)
            → m ≡ put w.at (in_bytes (w.number.0 + 1) org dest back k) l → Goes (append_next work l) work l 0 v m
        in-goes j y v m d p =
            let rs : List (List ℕ) = rows_of 16 k (take (from + 20 + 16 * k - (from + 20)) (drop (from + 20) l)) in
            let n : length rs ≡ k = length-rows_of 16 k _ in
            let q : encode (w.number.0 + 1) (LI org dest back rs) ≡ in_bytes (w.number.0 + 1) org dest back k =
            encode-in (w.number.0 + 1) org dest back rs ∙ ap (in_bytes (w.number.0 + 1) org dest back) n in
            goes-went _ work l _ v m
            (append-goes work s (bring_in org dest back) next _ in-record v m (sym g ∙ j)
            (did_made _ work y v (sym (can (w.number.0 + 1) org back) ∙ not-false z h) (d org back)) (p ∙ ap (λ (bs : List ℕ). put w.at bs l) (sym q)))

  pub in-room : tested (w.at + room work (to_come l w)) (w.number.0 + 1) ≡ 0 → w.at + 24 ≤ 8192
  unfolding step_size length_of
  in-room e = record-room work s (bring_in org dest back) next e

-- ---- LM

module _ (work : List ℕ) {l : List ℕ} {w : Walk} (s : Stands l w) (base old new : ℕ) (other : Bool) (next : next_step l w ≡ point base old new other) where
  -- the key of the entry that it takes
  abbrev lowest : Option ℕ
  lowest = lowest_to (skipped other s.unit.did) old (entries (page base work))

  point-none : lowest ≡ none → next_rec (point base old new other) s.unit.did (page_of (target_of (point base old new other)) work) ≡ none
  unfolding next_rec target_of page_of bind
  point-none e = rw e

  point-record : (key : ℕ) → lowest ≡ some key
      → next_rec (point base old new other) s.unit.did (page_of (target_of (point base old new other)) work) ≡ some (LM base old new key)
  unfolding next_rec target_of page_of bind
  point-record key e = rw e

  -- on a page that is no base page: there is no entry, or the change cannot be made
  module _ (z : Bool) (e : z ≡ is_base (take (256 * base + 256 - 256 * base) (drop (256 * base) work))) where
    pub point-base : not z ≡ false → is_base (page base work) ≡ true
    point-base h = sym (e ∙ rw (lent-page base work)) ∙ not-false z h

    pub point-refused : not z ≡ true → Goes (append_next work l) work l 5 work l
    point-refused h = goes-stopped _ work l 5 (by-entry lowest refl)
      where
        by-entry : (o : Option ℕ) → lowest ≡ o → append_next work l ≡ stopped 5
        by-entry none q = append-none work s (point base old new other) next (point-none q)
        by-entry (some key) q =
            append-stuck work s (point base old new other) next (LM base old new key) (point-record key q) (sym (can-page work base old new key z e h (w.number.0 + 1)))

  module _ (r : Lowest) (e : key_in r ≡ lowest_to (when other w.key) old (entries (page base work))) where
    taken_is : key_in r ≡ lowest
    taken_is = e ∙ ap (λ (o : Option ℕ). lowest_to o old (entries (page base work))) (skip_is s base old new other next)

    pub point-missing : r ≡ Nothing → Goes (append_next work l) work l 5 work l
    unfolding key_in
    point-missing q = goes-stopped _ work l 5 (append-none work s (point base old new other) next (point-none (sym taken_is ∙ rw q)))

    module _ (key : ℕ) (q : r ≡ Key key) (z : Bool) (can : (n : ℕ) → z ≡ there (apply n (LM base old new key) work)) where
      point-is : lowest ≡ some key
      unfolding key_in
      point-is = sym taken_is ∙ rw q

      pub point-stuck : not z ≡ true → Goes (append_next work l) work l 5 work l
      point-stuck h =
          goes-stopped _ work l 5
          (append-stuck work s (point base old new other) next _ (point-record key point-is) (sym (can (w.number.0 + 1)) ∙ not-true z h))

      module _ (h : not z ≡ false) (t : ℕ) (g : t ≡ tested (w.at + room work (to_come l w)) (w.number.0 + 1)) where
        pub point-stopped : (t ≡ 0 → ⊥) → Goes (append_next work l) work l t work l
        point-stopped j =
            goes-stopped _ work l t
            (append-stops work s (point base old new other) next _ (point-record key point-is) (sym (can (w.number.0 + 1)) ∙ not-false z h) t g j)

        pub point-goes : t ≡ 0 → (y : Bool) (v m : List ℕ) → Did (apply (w.number.0 + 1) (LM base old new key) work) work y v
            → m ≡ put w.at (encode (w.number.0 + 1) (LM base old new key)) l → Goes (append_next work l) work l 0 v m
        point-goes j y v m d p =
            goes-went _ work l _ v m
            (append-goes work s (point base old new other) next _ (point-record key point-is) v m (sym g ∙ j)
            (did_made _ work y v (sym (can (w.number.0 + 1)) ∙ not-false z h) d) p)

  pub point-room : tested (w.at + room work (to_come l w)) (w.number.0 + 1) ≡ 0 → w.at + 28 ≤ 8192
  unfolding step_size length_of
  point-room e = record-room work s (point base old new other) next e

-- ---- LE

module _ (work : List ℕ) {l : List ℕ} {w : Walk} (s : Stands l w) (unit : ℕ) (next : next_step l w ≡ close unit) where
  close-record : next_rec (close unit) s.unit.did (page_of (target_of (close unit)) work) ≡ some (LE unit [])
  unfolding next_rec
  close-record = refl

  close-made : apply (w.number.0 + 1) (LE unit []) work ≡ some work
  unfolding targets places_of
  close-made = apply-stays (w.number.0 + 1) (LE unit []) work refl

  module _ (t : ℕ) (g : t ≡ tested (w.at + room work (to_come l w)) (w.number.0 + 1)) where
    pub close-stopped : (t ≡ 0 → ⊥) → Goes (append_next work l) work l t work l
    close-stopped j = goes-stopped _ work l t (append-stops work s (close unit) next _ close-record (there-some _ _ close-made) t g j)

    pub close-goes : t ≡ 0 → (m : List ℕ) → m ≡ put w.at (encode (w.number.0 + 1) (LE unit [])) l → Goes (append_next work l) work l 0 work m
    close-goes j m p = goes-went _ work l _ work m (append-goes work s (close unit) next _ close-record work m (sym g ∙ j) close-made p)

  pub close-room : tested (w.at + room work (to_come l w)) (w.number.0 + 1) ≡ 0 → w.at + 16 ≤ 8192
  unfolding step_size length_of
  close-room e = record-room work s (close unit) next e
