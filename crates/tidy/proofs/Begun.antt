-- The begin records of the units are in form, and none of their steps takes out a page that was changed before. Assumes nothing.
use Prim.Native.Nat.{ℕ, suc, ◌≤◌, ◌<◌}
use native.Mathlib.Omega.{arith}
use mathlib.Core.Path.{◌≡◌, refl, sym, ap, ◌∙◌}
use mathlib.Core.Logic.{◌≢◌, ◌⊎◌, ⊎_elim}
use mathlib.Core.Bool.{Bool, true, false, not}
use mathlib.Core.List.{List, [], ◌∷◌, ◌++◌}
use borrow.Author.Tests.{eqb-true, eqb-false, eq-eqb, ne_eqb, le-leb, lt-leb}
use lib.Dec.{eqb, leb}
use lib.ListN.{length, get_or, length-map}
use Rattle.field.specs.Test.{both, pick}
use Rattle.field.specs.Bytes.{most4}
use Rattle.field.proofs.Test.{both-intro, all-intro, all_nil, pick_true, pick-false, pick_second}
use Rattle.page.specs.Page.{first_base, last_base, first_leaf, last_leaf}
use Rattle.page.specs.Places.{Basic, Leafy}
use Rattle.logs.specs.Record.{Begin, saves}
use Rattle.logs.specs.Plan.{Step, take_out, bring_in, point, close, gather, removals, compact_plan, move_plan, swap_plan}
use Rattle.logs.specs.Log.{within, on_bases, on_leaves, listed, differ, compact_ok, swap_ok, move_ok, type_ok, begin_ok}
use Rattle.unit.specs.Choice.{one_or_two}
use Rattle.tidy.proofs.Model.{Entry, pointers, All}
use Rattle.tidy.proofs.Trail.{hit, miss}
use Rattle.tidy.proofs.Gather.{pages_of}
use Rattle.tidy.proofs.Compact.{plan-in-place, plan_new}
use Rattle.tidy.proofs.Shown.{Clear}
use Rattle.tidy.proofs.Carry.{Apart}

-- ---- lists of pages

-- a page in front keeps the list within its region
within-cons : (from to p : ℕ) (ps : List ℕ) → from ≤ p → p ≤ to → within from to ps ≡ true → within from to (p ∷ ps) ≡ true
unfolding within
within-cons from to p ps h k e = both-intro _ _ (le-leb from p h) (both-intro _ _ (le-leb p to k) e)

-- no page
within-nil : (from to : ℕ) → within from to [] ≡ true
unfolding within
within-nil from to = refl

-- one base page
base-alone : (p : ℕ) → Basic p → on_bases (p ∷ []) ≡ true
base-alone p h = within-cons first_base last_base p [] h.0 h.1 (within-nil first_base last_base)

-- one leaf page
leaf-alone : (p : ℕ) → Leafy p → on_leaves (p ∷ []) ≡ true
leaf-alone p h = within-cons first_leaf last_leaf p [] h.0 h.1 (within-nil first_leaf last_leaf)

-- the pages of entries that point to leaf pages
within-pages : (es : List Entry) → All (λ e. Leafy e.page) es → on_leaves (pages_of es) ≡ true
within-pages [] h = within-nil first_leaf last_leaf
within-pages (e ∷ es) h = within-cons first_leaf last_leaf e.page (pages_of es) h.0.0 h.0.1 (within-pages es h.1)

-- a page that no entry points to is not listed
pub listed-none : (p : ℕ) (es : List Entry) → pointers p es ≡ 0 → listed p (pages_of es) ≡ false
unfolding listed
listed-none p [] h = refl
listed-none p (e ∷ es) h =
    pick-false (eqb p e.page) true (listed p (pages_of es)) (ne_eqb p e.page (λ k. eqb-false e.page p (miss (eqb e.page p) _ h) (sym k)))
    ∙ listed-none p es (omega arith)

-- pages that are pointed to once differ
differ-pages : (es : List Entry) → ((p : ℕ) → pointers p es ≤ 1) → differ (pages_of es) ≡ true
unfolding differ
differ-pages [] h = refl
differ-pages (e ∷ es) h =
    both-intro _ _ (ap not (listed-none e.page es (omega (arith, h e.page, hit e))))
    (differ-pages es (λ p. omega (arith, h p)))

-- one page
differ-one : (p : ℕ) → differ (p ∷ []) ≡ true
unfolding differ listed both
differ-one p = refl

-- two pages
differ-two : (p q : ℕ) → p ≢ q → differ (p ∷ q ∷ []) ≡ true
unfolding differ listed both pick
differ-two p q d = rw (ne_eqb p q d)

-- ---- the begin records

-- a compact
abbrev pub compact_begin : (u fill b : ℕ) (leaves : List ℕ) (d : ℕ) → Begin
compact_begin u fill b leaves d = record { unit = u; type = 1; fill = fill; bases = b ∷ []; leaves = leaves; dest = d; saved = [] }

-- a move
abbrev pub move_begin : (u b a d : ℕ) → Begin
move_begin u b a d = record { unit = u; type = 3; fill = 0; bases = b ∷ []; leaves = a ∷ []; dest = d; saved = [] }

-- a swap
abbrev pub swap_begin : (u p q a b : ℕ) → Begin
swap_begin u p q a b = record { unit = u; type = 2; fill = 0; bases = one_or_two p q; leaves = a ∷ b ∷ []; dest = 0; saved = [] }

-- by type
ok_of : (g : Begin) → g.unit ≤ most4 → type_ok g ≡ true → on_bases g.bases ≡ true → differ g.bases ≡ true → on_leaves g.leaves ≡ true
    → differ g.leaves ≡ true → eqb (length g.saved) (pick (saves g) 1 0) ≡ true → begin_ok g ≡ true
unfolding begin_ok
ok_of g u t b c l d s =
    all-intro _ _ (le-leb g.unit most4 u) (all-intro _ _ t (all-intro _ _ b (all-intro _ _ c (all-intro _ _ l (all-intro _ _ d (all-intro _ _ s all_nil))))))

-- compacts, moves and swaps carry no record
pub plain : (k : ℕ) → k < 4 → leb 4 k ≡ false
plain k h = lt-leb 4 k h

none-carried : (k : ℕ) → k < 4 → eqb 0 (pick (leb 4 k) 1 0) ≡ true
none-carried k h = rw (plain k h) (unfold pick in eq-eqb 0 0 refl)

-- a compact's begin record is in form
pub compact-ok : (u fill b : ℕ) (x : Entry) (ds : List Entry) (d : ℕ) → u ≤ most4 → 1 ≤ fill → fill ≤ 15 → Basic b
    → All (λ e. Leafy e.page) (x ∷ ds) → ((p : ℕ) → pointers p (x ∷ ds) ≤ 1) → 1 ≤ length ds → length ds ≤ 7 → Leafy d
    → (d ≡ x.page) ⊎ (listed d (pages_of (x ∷ ds)) ≡ false) → begin_ok (compact_begin u fill b (pages_of (x ∷ ds)) d) ≡ true
unfolding type_ok compact_ok saves
compact-ok u fill b x ds d hu f1 f15 hb hl once l1 l7 hd side =
    let n : length (pages_of ds) ≡ length ds = length-map ds (λ (e : Entry). e.page) in
    let t : pick (eqb d x.page) true (not (listed d (pages_of (x ∷ ds)))) ≡ true = ⊎_elim
    (λ (e : d ≡ x.page). pick_true (eqb d x.page) true _ (eq-eqb d x.page e))
    (λ (e : listed d (pages_of (x ∷ ds)) ≡ false). pick_second (eqb d x.page) _ (ap not e))
    side in
    ok_of (compact_begin u fill b (pages_of (x ∷ ds)) d) hu
    (pick_true (eqb 1 1) _ _ (eq-eqb 1 1 refl)
    ∙ all-intro _ _ (eq-eqb 1 1 refl)
    (all-intro _ _ (le-leb 2 (suc (length (pages_of ds))) (omega arith))
    (all-intro _ _ (le-leb (suc (length (pages_of ds))) 8 (omega arith))
    (all-intro _ _ (le-leb 1 fill f1)
    (all-intro _ _ (le-leb fill 15 f15)
    (all-intro _ _ (leaf-alone d hd) (all-intro _ _ t all_nil)))))))
    (base-alone b hb) (differ-one b) (within-pages (x ∷ ds) hl) (differ-pages (x ∷ ds) once) (none-carried 1 (omega arith))

-- a move's
pub move-ok : (u b a d : ℕ) → u ≤ most4 → Basic b → Leafy a → Leafy d → d ≢ a → begin_ok (move_begin u b a d) ≡ true
unfolding type_ok move_ok listed saves
move-ok u b a d hu hb ha hd n =
    ok_of (move_begin u b a d) hu
    (pick-false (eqb 3 1) _ _ (ne_eqb 3 1 (λ z. omega arith))
    ∙ pick-false (eqb 3 2) _ _ (ne_eqb 3 2 (λ z. omega arith))
    ∙ pick-false _ _ _ (plain 3 (omega arith))
    ∙ both-intro _ _ (eq-eqb 3 3 refl)
    (all-intro _ _ (eq-eqb 1 1 refl)
    (all-intro _ _ (eq-eqb 1 1 refl)
    (all-intro _ _ (eq-eqb 0 0 refl)
    (all-intro _ _ (leaf-alone d hd)
    (all-intro _ _ (ap not (pick-false (eqb d a) true false (ne_eqb d a n))) all_nil))))))
    (base-alone b hb) (differ-one b) (leaf-alone a ha) (differ-one a) (none-carried 3 (omega arith))

-- one base page or two
two-bases : (p q : ℕ) → Basic p → Basic q
    → (on_bases (one_or_two p q) ≡ true) × (differ (one_or_two p q) ≡ true) × (1 ≤ length (one_or_two p q)) × (length (one_or_two p q) ≤ 2)
unfolding one_or_two pick
two-bases p q hp hq = go (eqb p q) refl
  where
    go : (t : Bool) → eqb p q ≡ t → (on_bases (pick t (p ∷ []) (p ∷ q ∷ [])) ≡ true) × (differ (pick t (p ∷ []) (p ∷ q ∷ [])) ≡ true)
        × (1 ≤ length (pick t (p ∷ []) (p ∷ q ∷ []))) × (length (pick t (p ∷ []) (p ∷ q ∷ [])) ≤ 2)
    go true e =
        (base-alone p hp, differ-one p, omega arith, omega arith)
    go false e = (
      within-cons first_base last_base p (q ∷ []) hp.0 hp.1 (base-alone q hq),
      differ-two p q (eqb-false p q e),
      omega arith,
      omega arith,
    )

-- a swap's
pub swap-ok : (u p q a b : ℕ) → u ≤ most4 → Basic p → Basic q → Leafy a → Leafy b → a ≢ b → begin_ok (swap_begin u p q a b) ≡ true
unfolding type_ok swap_ok saves
swap-ok u p q a b hu hp hq ha hb n =
    let t = two-bases p q hp hq in
    ok_of (swap_begin u p q a b) hu
    (pick-false (eqb 2 1) _ _ (ne_eqb 2 1 (λ z. omega arith))
    ∙ pick_true (eqb 2 2) _ _ (eq-eqb 2 2 refl)
    ∙ all-intro _ _ (le-leb 1 (length (one_or_two p q)) t.2)
    (all-intro _ _ (le-leb (length (one_or_two p q)) 2 t.3)
    (all-intro _ _ (eq-eqb 2 2 refl) (all-intro _ _ (eq-eqb 0 0 refl) (all-intro _ _ (eq-eqb 0 0 refl) all_nil)))))
    t.0 t.1
    (within-cons first_leaf last_leaf a (b ∷ []) ha.0 ha.1 (leaf-alone b hb)) (differ-two a b n) (none-carried 2 (omega arith))

-- the base pages that the plan of a swap reads off
pub bases-read : (p q : ℕ) → (get_or (one_or_two p q) 0 0 ≡ p) × (get_or (one_or_two p q) 1 p ≡ q)
unfolding one_or_two pick
bases-read p q = go (eqb p q) refl
  where
    go : (t : Bool) → eqb p q ≡ t → (get_or (pick t (p ∷ []) (p ∷ q ∷ [])) 0 0 ≡ p) × (get_or (pick t (p ∷ []) (p ∷ q ∷ [])) 1 p ≡ q)
    go true e = (refl, eqb-true p q e)
    go false e = (refl, refl)

-- ---- no page is taken out after it was changed

-- LMs and LE take out nothing
clear-removals : (p q u : ℕ) (ps : List ℕ) → Clear p (removals q ps ++ (close u ∷ []))
unfolding removals
clear-removals p q u [] = tt
clear-removals p q u (r ∷ ps) = clear-removals p q u ps

-- nor do they change a leaf page
apart-removals : (q u : ℕ) (ps : List ℕ) → Apart (removals q ps ++ (close u ∷ []))
unfolding removals
apart-removals q u [] = tt
apart-removals q u (r ∷ ps) = apart-removals q u ps

module _ (zs : List Step) (c : ℕ) where
  -- gathering takes out the listed pages only
  clear-gather : (p : ℕ) (ds : List Entry) → pointers p ds ≡ 0 → Clear p zs → Clear p (gather c (pages_of ds) ++ zs)
  unfolding gather pick
  clear-gather p [] h k = k
  clear-gather p (d ∷ ds) h k = go (eqb d.page c) (clear-gather p ds (omega arith) k)
    where
      go : (t : Bool) → Clear p (gather c (pages_of ds) ++ zs)
          → Clear p (pick t (gather c (pages_of ds)) (take_out d.page c ∷ bring_in d.page c 1 ∷ gather c (pages_of ds)) ++ zs)
      go true r = r
      go false r = (eqb-false d.page p (miss (eqb d.page p) _ h), r)

  -- pages that differ, gathered into another one
  apart-gather : (ds : List Entry) → pointers c ds ≡ 0 → ((p : ℕ) → pointers p ds ≤ 1) → ((p : ℕ) → Clear p zs) → Apart zs → Apart (gather c (pages_of ds) ++ zs)
  unfolding gather
  apart-gather [] h once f a = a
  apart-gather (d ∷ ds) h once f a =
      rw (pick-false (eqb d.page c) (gather c (pages_of ds)) (take_out d.page c ∷ bring_in d.page c 1 ∷ gather c (pages_of ds)) (miss (eqb d.page c) _ h)) (
        clear-gather d.page ds (omega (arith, once d.page, hit d)) (f d.page),
        (clear-gather c ds (omega arith) (f c), apart-gather ds (omega arith) (λ p. omega (arith, once p)) f a),
      )

-- a compact in place
pub apart-compact : (q u : ℕ) (x : Entry) (ds : List Entry) → ((p : ℕ) → pointers p (x ∷ ds) ≤ 1)
    → Apart (compact_plan q x.page (x.page ∷ pages_of ds) ++ (close u ∷ []))
apart-compact q u x ds once =
    rw (plan-in-place q x.page (pages_of ds) (close u ∷ []))
    (apart-gather (removals q (pages_of ds) ++ (close u ∷ [])) x.page ds (omega (arith, once x.page, hit x)) (λ p. omega (arith, once p))
    (λ p. clear-removals p q u (pages_of ds)) (apart-removals q u (pages_of ds)))

-- a compact to a new place
pub apart-new : (q u : ℕ) (x : Entry) (ds : List Entry) (b : ℕ) → x.page ≢ b → ((p : ℕ) → pointers p (x ∷ ds) ≤ 1) → pointers b ds ≡ 0
    → Apart (compact_plan q b (x.page ∷ pages_of ds) ++ (close u ∷ []))
apart-new q u x ds b d once none =
    let zs : List Step = point q x.page b false ∷ (removals q (pages_of ds) ++ (close u ∷ [])) in
    rw (plan_new q x.page b (pages_of ds) (close u ∷ []) d) (
      clear-gather zs b x.page ds (omega (arith, once x.page, hit x)) (clear-removals x.page q u (pages_of ds)),
      (
        clear-gather zs b b ds none (clear-removals b q u (pages_of ds)),
        apart-gather zs b ds none (λ p. omega (arith, once p)) (λ p. clear-removals p q u (pages_of ds)) (apart-removals q u (pages_of ds)),
      ),
    )

-- a move
pub apart-move : (q a b u : ℕ) → Apart (move_plan q a b ++ (close u ∷ []))
unfolding move_plan
apart-move q a b u = (tt, (tt, tt))

-- a swap
pub apart-swap : (p q a b u : ℕ) → a ≢ b → Apart (swap_plan p q a b ++ (close u ∷ []))
unfolding swap_plan
apart-swap p q a b u d = ((λ e. d (sym e), tt), (tt, (tt, (tt, tt))))
