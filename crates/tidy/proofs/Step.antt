-- Each step of a unit on bytes: where the tree that the pages show allows it, its record is found, its change can be made, what was counted
-- for it is appended, and the pages then show the tree after the step. Assumes nothing.
use Prim.Native.Nat.{ℕ, zero, suc, ◌+◌, ◌-◌, ◌≤◌, ◌<◌}
use native.Mathlib.Omega.{arith}
use mathlib.Core.Path.{◌≡◌, refl, sym, ap, ◌∙◌}
use mathlib.Core.Logic.{◌⊎◌, inl, ⊎_elim}
use mathlib.Core.Bool.{Bool, true, false, false≢true}
use mathlib.Core.List.{List, [], ◌∷◌, ◌++◌, map}
use mathlib.Core.Option.{some}
use borrow.Author.Tests.{eq-eqb, ne_eqb, le-leb}
use lib.Dec.{eqb}
use lib.ListN.{length, get_or, length-append, length-map}
use Rattle.field.specs.Test.{pick}
use Rattle.field.specs.Bytes.{Bytes}
use Rattle.field.proofs.Test.{both-2, both-intro, all-intro, all_nil, pick_true, pick-false, pick_second, when_true, bind-intro}
use Rattle.field.proofs.Same.{eq-same}
use Rattle.page.specs.Page.{joined, key_of, ascend, ascend_records, spare, made, base, leaf, empty, entries, records, shaped, is_base, is_leaf, is_empty}
use Rattle.page.specs.Change.{above, emptied, appended, has, point_to, without, redirected, removed}
use Rattle.page.specs.Pages.{page, put_page}
use Rattle.page.specs.Places.{Leafy, Basic}
use Rattle.page.specs.Each.{Each}
use Rattle.page.proofs.Rows.{each_append}
use Rattle.page.proofs.Order.{First, ascend-facts, ascend-of, ascend-append}
use Rattle.page.proofs.Made.{Fill}
use Rattle.page.proofs.Rows.{length-rows}
use Rattle.page.proofs.Kept.{Changed, bytes-rows, emptied-kept, appended-kept, redirected-kept, removed-kept, bytes-emptied, bytes-appended, bytes-redirected, bytes-removed}
use Rattle.page.proofs.Pages.{bytes-page}
use Rattle.logs.specs.Record.{out, length_of, Rec, LO, LI, LM, LE, kind_of, carried, outs, size}
use Rattle.logs.specs.Plan.{Step, take_out, bring_in, point}
use Rattle.logs.specs.Log.{taken}
use Rattle.logs.specs.Valid.{Moved}
use Rattle.unit.specs.Next.{targets, change, target_of, page_of, skipped, lowest_to, next_rec, step_size}
use Rattle.unit.proofs.Pagewise.{applies}
use Rattle.page.proofs.Region.{empty-formed, leaf-formed, base-formed}
use Rattle.tidy.proofs.Model.{Entry, Ascends, full, upd, redirect, strip, lowest, state}
use Rattle.tidy.proofs.Entries.{ent, ents, lowest-ents, lowest-has, redirect-ents, strip-ents}
use Rattle.tidy.proofs.Pages.{sound-page, leaf-at, base-at, leaf-form, base-form, leaf-rows, base-rows, rows_empty, put-root}
use Rattle.tidy.proofs.Shown.{Shows, AllMoved, Clear, Stepped, room-put, shows-leaf, shows-base}

-- ---- LO

module _ (n : ℕ) (did : List Rec) (xs : List Step) (w : List ℕ) (l : ℕ → List (List ℕ)) (b : ℕ → List Entry) (sh : Shows w (state l b)) (few : n < 4294967296) where
  -- a page that holds records is a leaf
  is_leaf_lem : (p : ℕ) → Leafy p → 1 ≤ full (l p) → is_leaf (page p w) ≡ true
  is_leaf_lem p h f =
      ⊎_elim
      (λ (e : is_empty (page p w) ≡ true). absurd
      (omega (arith, ap full (sh.leaves p ∙ leaf-at w p h.0 ∙ rows_empty 16 (page p w) e))))
      (λ (e : is_leaf (page p w) ≡ true). e)
      (leaf-form p (page p w) h.0 (sound-page p w sh.sound (omega (arith, h.1))))

  -- its records are rows that an LI can append
  leaf-moved : (p : ℕ) → Leafy p → 1 ≤ full (l p) → Moved (records (page p w))
  leaf-moved p h f =
      let g : Fill leaf (records (page p w)) = leaf-rows (page p w) (is_leaf_lem p h f) in
      record {
        some-rows = g.enough;
        few-rows = g.room;
        long = g.long;
        bytes = bytes-rows 16 (page p w) (bytes-page p w sh.sound.bytes);
        order = g.order;
      }

  -- an LO
  pub out_step : (p d : ℕ) → Leafy p → Clear p xs → 1 ≤ full (l p)
      → Stepped n did (take_out p d) xs w (LO p d (l p)) (state (upd l p []) b) × Moved (l p)
  unfolding next_rec target_of page_of step_size size kind_of carried outs targets change emptied is_empty
  out_step p d h c f =
      let pg : List ℕ = page p w in
      let small : p < 64 = omega (arith, h.1) in
      let e : l p ≡ records pg = sh.leaves p ∙ leaf-at w p h.0 in
      let lf : is_leaf pg ≡ true = is_leaf_lem p h f in
      let pg' : List ℕ = made empty.sign n (spare pg) [] in
      let made_so : emptied n (l p) pg ≡ some pg' = when_true _ pg' (both-intro _ _ lf (eq-same _ _ (ap joined (sym e)))) in
      let k : Changed empty n [] pg' = emptied-kept n (l p) pg pg' made_so few in (
        record {
          now = put_page p pg' w;
          form = sound-page p w sh.sound small;
          next = when_true (is_leaf pg) (LO p d (records pg)) lf ∙ ap (λ (v : List (List ℕ)). some (LO p d v)) (sym e);
          applied = applies n p (LO p d (l p)) w refl pg' made_so;
          counted = ap (length_of out) (ap length e ∙ length-rows 16 pg);
          left = room-put p pg' w sh.sound small k.whole xs c;
          shows = shows-leaf w l b sh p pg' k.whole (bytes-emptied n (l p) pg pg' made_so (bytes-page p w sh.sound.bytes)) h
              (empty-formed p pg' (omega (arith, h.0)) k.form) [] k.holds;
          top = put-root p pg' w sh.sound small k.whole (omega (arith, h.0));
        },
        rw e (leaf-moved p h f),
      )

-- ---- LI

-- rows that bear marks and whose keys ascend are in order
in_order_lem : (a b lo : ℕ) (rs : List (List ℕ)) → Each (λ r. (get_or r 0 0 ≡ a) × (get_or r 1 0 ≡ b)) rs → Ascends lo (map key_of rs) → ascend a b lo rs ≡ true
in_order_lem a b lo [] Each.nil h = unfold ascend in refl
in_order_lem a b lo (r ∷ rs) (Each.cons m ms) h =
    let k : suc (key_of r) ≡ key_of r + 1 = omega arith in
    ascend-of a b lo r rs (record { one = m.0; two = m.1; low = h.0; after = in_order_lem a b (key_of r + 1) rs ms (rw k at h.1) })

-- rows in order bear marks
marked : (a b lo : ℕ) (rs : List (List ℕ)) → ascend a b lo rs ≡ true → Each (λ r. (get_or r 0 0 ≡ a) × (get_or r 1 0 ≡ b)) rs
marked a b lo [] e = Each.nil
marked a b lo (r ∷ rs) e = let f : First a b lo r rs = ascend-facts a b lo r rs e in Each.cons (f.one, f.two) (marked a b (key_of r + 1) rs f.after)

-- a page of the kind leaf is a leaf
shaped-leaf : (pg : List ℕ) → shaped leaf pg ≡ true → is_leaf pg ≡ true
unfolding is_leaf
shaped-leaf pg e = e

-- the rows of the LO so far back, if there are any
taken-moved : (i : ℕ) (did : List Rec) → AllMoved did → (outs (get_or did i (LE 0 [])) ≡ []) ⊎ Moved (outs (get_or did i (LE 0 [])))
unfolding outs
taken-moved i [] h = inl refl
taken-moved zero (r ∷ did) h = h.0
taken-moved (suc i) (r ∷ did) h = taken-moved i did h.1

module _ (n : ℕ) (did : List Rec) (xs : List Step) (w : List ℕ) (l : ℕ → List (List ℕ)) (b : ℕ → List Entry) (sh : Shows w (state l b)) (few : n < 4294967296) where
  -- what a leaf page in form has
  leaf-order : (p : ℕ) → Leafy p → ascend_records 0 (records (page p w)) ≡ true
  leaf-order p h =
      ⊎_elim
      (λ (e : is_empty (page p w) ≡ true). rw (rows_empty 16 (page p w) e) (unfold ascend in refl))
      (λ (e : is_leaf (page p w) ≡ true). (leaf-rows (page p w) e).order)
      (leaf-form p (page p w) h.0 (sound-page p w sh.sound (omega (arith, h.1))))

  -- an LI
  pub in_step : (p d back : ℕ) (v : List (List ℕ)) → Leafy d → Clear d xs → AllMoved did → v ≡ taken back did → 1 ≤ full v → length (l d ++ v) ≤ 15
      → Ascends 0 (map key_of (l d ++ v)) → Stepped n did (bring_in p d back) xs w (LI p d back v) (state (upd l d (l d ++ v)) b)
  unfolding next_rec target_of page_of step_size size kind_of carried outs targets change appended taken
  in_step p d back v h c am ev f short up =
      let pg : List ℕ = page d w in
      let small : d < 64 = omega (arith, h.1) in
      let e : l d ≡ records pg = sh.leaves d ∙ leaf-at w d h.0 in
      let m : Moved v = ⊎_elim
      (λ (z : outs (get_or did (back - 1) (LE 0 [])) ≡ []). absurd (omega (arith, ap full (ev ∙ z))))
      (λ (q : Moved (outs (get_or did (back - 1) (LE 0 [])))). rw ev q)
      (taken-moved (back - 1) did am) in
      let all-marked : Each (λ r. (get_or r 0 0 ≡ 114) × (get_or r 1 0 ≡ 99)) (records pg ++ v) =
      each_append (marked 114 99 0 (records pg) (leaf-order d h)) (marked 114 99 0 v m.order) in
      let whole-order : ascend_records 0 (records pg ++ v) ≡ true = in_order_lem 114 99 0 (records pg ++ v) all-marked (rw e at up) in
      let behind : ascend_records (above 0 (records pg)) v ≡ true = both-2 _ _ (sym (ascend-append 114 99 0 (records pg) v) ∙ whole-order) in
      let kind_ok : pick (is_empty pg) true (is_leaf pg) ≡ true = ⊎_elim
      (λ (z : is_empty pg ≡ true). pick_true (is_empty pg) true (is_leaf pg) z)
      (λ (z : is_leaf pg ≡ true). pick_second (is_empty pg) (is_leaf pg) z)
      (leaf-form d pg h.0 (sound-page d w sh.sound small)) in
      let fits : length (records pg) + length v ≤ 15 = omega (arith, rw (e, length-append (records pg) v) at short) in
      let pg' : List ℕ = made leaf.sign n (spare pg) (records pg ++ v) in
      let made_so : appended n v pg ≡ some pg' =
      when_true _ pg' (all-intro _ _ kind_ok (all-intro _ _ (le-leb (length (records pg) + length v) 15 fits) (all-intro _ _ behind all_nil))) in
      let k : Changed leaf n (records pg ++ v) pg' = appended-kept n v pg pg' made_so few m.long m.some-rows in
      record {
        now = put_page d pg' w;
        form = sound-page d w sh.sound small;
        next = ap (λ (x : List (List ℕ)). some (LI p d back x)) (sym ev);
        applied = applies n d (LI p d back v) w refl pg' made_so;
        counted = refl;
        left = room-put d pg' w sh.sound small k.whole xs c;
        shows = shows-leaf w l b sh d pg' k.whole (bytes-appended n v pg pg' made_so (bytes-page d w sh.sound.bytes) m.bytes) h
            (leaf-formed d pg' h.0 (shaped-leaf pg' k.form)) (l d ++ v) (k.holds ∙ ap (λ (x : List (List ℕ)). x ++ v) (sym e));
        top = put-root d pg' w sh.sound small k.whole (omega (arith, h.0));
      }

  -- ---- LM

  module _ (q old k : ℕ) (other : Bool) (h : Basic q) (c : Clear q xs) (found : lowest (skipped other did) old (b q) ≡ some k) where
    -- the entries that the page shows
    shown : b q ≡ ents (entries (page q w))
    shown = sh.bases q ∙ base-at w q h.0 h.1

    -- the LM's key is found among the rows
    found_rows : lowest_to (skipped other did) old (entries (page q w)) ≡ some k
    found_rows = lowest-ents (skipped other did) old (entries (page q w)) ∙ ap (lowest (skipped other did) old) (sym shown) ∙ found

    -- the entry is there
    there : has k old (entries (page q w)) ≡ true
    there = lowest-has (skipped other did) old k (entries (page q w)) found_rows

    -- so the page is a base page
    is_base_lem : is_base (page q w) ≡ true
    unfolding has
    is_base_lem =
        ⊎_elim
        (λ (e : is_empty (page q w) ≡ true). let z : has k old [] ≡ true = rw (rows_empty 8 (page q w) e) at there in absurd (false≢true z))
        (λ (e : is_base (page q w) ≡ true). e)
        (base-form q (page q w) h.0 h.1 (sound-page q w sh.sound (omega (arith, h.1))))

    -- with the page that the change made
    modified : (new : ℕ) (pg' : List ℕ) (es : List (List ℕ)) (v : List Entry) → change n (LM q old new k) q (page q w) ≡ some pg' → Bytes pg'
        → Changed base n es pg' → is_base pg' ≡ true → ents es ≡ v → Stepped n did (point q old new other) xs w (LM q old new k) (state l (upd b q v))
    unfolding next_rec target_of page_of step_size size kind_of carried outs targets
    modified new pg' es v made_so bytes ch ok e =
        let small : q < 64 = omega (arith, h.1) in
        record {
          now = put_page q pg' w;
          form = sound-page q w sh.sound small;
          next = bind-intro (lowest_to (skipped other did) old (entries (page q w))) (λ (j : ℕ). some (LM q old new j)) k found_rows;
          applied = applies n q (LM q old new k) w refl pg' made_so;
          counted = refl;
          left = room-put q pg' w sh.sound small ch.whole xs c;
          shows = shows-base w l b sh q pg' ch.whole bytes h (base-formed q pg' h.0 h.1 ok) v (ap ents ch.holds ∙ e);
          top = put-root q pg' w sh.sound small ch.whole h.0;
        }

    -- an LM that points elsewhere
    pub point-step : (new : ℕ) → Leafy new → Stepped n did (point q old new other) xs w (LM q old new k) (state l (upd b q (map (redirect k old new) (b q))))
    unfolding redirected change
    point-step new to =
        let pg : List ℕ = page q w in
        let pg' : List ℕ = made base.sign n (spare pg) (point_to k old new (entries pg)) in
        let made_so : redirected n k old new pg ≡ some pg' = when_true _ pg' (both-intro _ _ is_base_lem there) in
        let ch = redirected-kept n k old new pg pg' made_so few to.0 to.1 in
        let g : Fill base (entries pg) = base-rows pg is_base_lem in
        let zero-not : eqb new 0 ≡ false = ne_eqb new 0 (λ z. omega (arith, to.0)) in
        modified new pg' (point_to k old new (entries pg)) (map (redirect k old new) (b q))
        (pick-false (eqb new 0) (removed n k old pg) (redirected n k old new pg) zero-not ∙ made_so)
        (bytes-redirected n k old new pg pg' made_so (bytes-page q w sh.sound.bytes)) ch.0 ch.1
        (redirect-ents k old new (entries pg) (omega (arith, to.1)) g.long ∙ ap (map (redirect k old new)) (sym shown))

    -- an LM that removes
    pub remove-step : 2 ≤ length (b q) → Stepped n did (point q old 0 other) xs w (LM q old 0 k) (state l (upd b q (strip k old (b q))))
    unfolding removed change
    remove-step two =
        let pg : List ℕ = page q w in
        let pg' : List ℕ = made base.sign n (spare pg) (without k old (entries pg)) in
        let enough : 2 ≤ length (entries pg) = omega (arith, ap length shown ∙ length-map (entries pg) ent) in
        let made_so : removed n k old pg ≡ some pg' =
        when_true _ pg' (all-intro _ _ is_base_lem (all-intro _ _ there (all-intro _ _ (le-leb 2 (length (entries pg)) enough) all_nil))) in
        let ch = removed-kept n k old pg pg' made_so few in
        modified 0 pg' (without k old (entries pg)) (strip k old (b q))
        (pick_true (eqb 0 0) (removed n k old pg) (redirected n k old 0 pg) (eq-eqb 0 0 refl) ∙ made_so)
        (bytes-removed n k old pg pg' made_so (bytes-page q w sh.sound.bytes)) ch.0 ch.1
        (strip-ents k old (entries pg) ∙ ap (strip k old) (sym shown))
