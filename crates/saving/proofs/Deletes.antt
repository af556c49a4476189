-- The pages that a delete changes, by places: a record taken out of a leaf, an entry out of a base page, out of the root. Assumes nothing.
use Prim.Native.Nat.{ℕ, zero, suc, ◌+◌, ◌-◌, ◌≤◌, ◌<◌}
use native.Mathlib.Nat.{not-suc-le-zero}
use native.Mathlib.Omega.{arith}
use mathlib.Core.Path.{◌≡◌, refl, ap, ◌∙◌}
use mathlib.Core.List.{List, [], ◌∷◌, ◌++◌}
use lib.ListN.{length, take, drop, get_or, length-append, length-drop, drop_of_length-le}
use lib.Seq.{length-take-le, drop-cons}
use borrow.Author.Tests.{le-leb, lt-leb, lt-ltb, le-ltb}
use Rattle.field.proofs.Test.{pick_true, pick-false, need-true, need-false}
use Rattle.field.proofs.Part.{split}
use Rattle.page.specs.Page.{root, base, leaf, empty, key_of, to_page, entries, count, rows}
use Rattle.page.specs.Pages.{page, pages}
use Rattle.page.proofs.Rows.{length-rows}
use Rattle.page.proofs.Pages.{get_or-pages}
use Rattle.tree.specs.Tree.{under, root_entries}
use Rattle.tree.proofs.Sound.{root-entries}
use Rattle.saving.specs.Save.{Sheet, cannot, sheets, rewritten, anew, in_order, without_key, base_for, leaf_for, lowered, closed, unite, right_lowered, empty_out, delete_from, delete_sheets}
use Rattle.field.specs.declared.PageNo.{PageNo}
use Rattle.saving.specs.Draft.{inserted, Draws}
use Rattle.saving.specs.Route.{Stands, Leads}
use Rattle.saving.specs.declared.draft.Draft.{Draft}
use Rattle.saving.specs.declared.draft.More.TheVariants.{Nothing, Entry}
use Rattle.saving.specs.declared.route.Route.{Route}
use Rattle.saving.proofs.Found.{Parts}
use Rattle.saving.proofs.Leads.{parted}
use Rattle.saving.proofs.Plans.{draws-as}
use Rattle.saving.proofs.Shapes.{lowered-from, closed-left, closed-right, closed-only, order-two, order-three, order-four, order-four-swap}

-- where there is one, and not just one, there are two
pub two-of : (n m : ℕ) → n ≡ m → 0 < m → (n ≡ 1 → ⊥) → 2 ≤ m
two-of n m e h ne = split m 2 (λ (g : m < 2). absurd (ne (omega arith))) (λ (g : 2 ≤ m). g)

-- ---- entries with one gone

-- the entries es without the i-th
abbrev pub without : (i : ℕ) → (es : List (List ℕ)) → List (List ℕ)
without i es = closed (take i es) (get_or es i []) (drop (i + 1) es)

module _ (key i : ℕ) (es : List (List ℕ)) (z : Parts key es i) where
  unite-is : unite key es ≡ without i es
  unfolding unite
  unite-is = rw (z.front, z.here, z.back)

-- none is left of one
without-only : (i : ℕ) (es : List (List ℕ)) → i < length es → length es ≡ 1 → length (without i es) ≡ 0
without-only i es h k =
    let z : i ≡ 0 = omega arith in
    rw z (ap length (closed-only (get_or es 0 []) es k) ∙ (length-drop 1 es ∙ rw k))

-- one at least is left of two
without_more : (i : ℕ) (es : List (List ℕ)) → i < length es → 2 ≤ length es → 1 ≤ length (without i es)
without_more i es h k =
    split 0 i
    (λ (g : 0 < i). rw (closed-left i (get_or es i []) es (drop (i + 1) es) g h, length-append (take i es) (drop (i + 1) es), length-take-le i es (omega arith)) (omega arith))
    (λ (g : i ≤ 0). let z : i ≡ 0 = omega arith in
    rw (z, closed-right (get_or es 0 []) es (drop 1 es), lowered-from (key_of (get_or es 0 [])) 1 es (omega arith)) (omega arith))

-- ---- the drafts of a page with an entry gone

module _ (w : List ℕ) (d : Draft) (p sign : ℕ) where
  abbrev own : List (List ℕ)
  own = rows 8 (page p w)

  abbrev drawing : (List ℕ → List (List ℕ)) → Type 0
  drawing f = Draws w d (λ r. rewritten (pages w) p sign (f r))

  pub lowered-draws : (i key : ℕ) (q : PageNo) → i < count (page p w) → q.0 ≡ to_page (get_or own i [])
      → drawing (λ r. take 0 own ++ (inserted r (Entry key q) ++ drop (i + 1) own)) → drawing (λ r. lowered key (drop i own))
  unfolding inserted
  lowered-draws i key q h e x = draws-as w d _ _ x (λ r. rw (lowered-from key i own (omega (arith, length-rows 8 (page p w))), ← e))

  pub left-draws : (i : ℕ) → 0 < i → i < count (page p w) → drawing (λ r. take i own ++ (inserted r Nothing ++ drop (i + 1) own)) → drawing (λ r. without i own)
  unfolding inserted
  left-draws i h k x = draws-as w d _ _ x (λ r. rw (closed-left i (get_or own i []) own (drop (i + 1) own) h (omega (arith, length-rows 8 (page p w)))))

  pub only-draws : (i : ℕ) → i ≤ 0 → count (page p w) ≡ 1 → drawing (λ r. take 0 own ++ (inserted r Nothing ++ drop 1 own)) → drawing (λ r. without i own)
  unfolding inserted
  only-draws i h k x =
      let z : i ≡ 0 = omega arith in
      draws-as w d _ _ x (λ r. rw (z, closed-only (get_or own 0 []) own (length-rows 8 (page p w) ∙ k)))

  pub right-draws : (i k : ℕ) → i ≤ 0 → k ≡ key_of (get_or own 0 []) → drawing (λ r. lowered k (drop 1 own)) → drawing (λ r. without i own)
  right-draws i k h e x =
      let z : i ≡ 0 = omega arith in
      draws-as w d _ _ x (λ r. rw (z, closed-right (get_or own 0 []) own (drop 1 own), ← e))

-- ---- the base page to the right

-- one stands before
right-none : (i : ℕ) (e : List ℕ) (es post ps : List (List ℕ)) → 0 < i → i < length es → right_lowered (take i es) e post ps ≡ []
unfolding right_lowered
right-none zero e es post ps h k = absurd (not-suc-le-zero h)
right-none (suc i) e [] post ps h k = absurd (not-suc-le-zero k)
right-none (suc i) e (x ∷ es) post ps h k = refl

-- none stands behind
right_end : (e : List ℕ) (es ps : List (List ℕ)) → length es ≡ 1 → right_lowered (take 0 es) e (drop 1 es) ps ≡ []
unfolding right_lowered
right_end e es ps h = rw (drop_of_length-le es {i = 1} (omega arith))

right-some : (e : List ℕ) (es ps : List (List ℕ)) → 2 ≤ length es
    → right_lowered (take 0 es) e (drop 1 es) ps
    ≡ rewritten ps (to_page (get_or es 1 [])) base.sign (lowered (key_of e) (entries (under ps (get_or es 1 [])))) ∷ []
unfolding right_lowered
right-some e es ps h = rw (drop-cons es 1 [] (omega arith))

-- ---- a leaf that loses its only record

module _ (w : List ℕ) (x : Route) (t : Leads w x) where
  abbrev ps : List (List ℕ)
  ps = pages w

  abbrev b : ℕ
  b = x.base.0

  abbrev p : ℕ
  p = x.leaf.0

  abbrev es : List (List ℕ)
  es = rows 8 (page b w)

  abbrev top : List (List ℕ)
  top = rows 8 (page 0 w)

  es-length : length es ≡ count (page b w)
  es-length = length-rows 8 (page b w)

  top-length : length top ≡ count (page 0 w)
  top-length = length-rows 8 (page 0 w)

  in-base : Parts x.key es x.under
  in-base = parted x.key 8 b x.under w t.under t.base.full

  in-root : Parts x.key top x.over
  in-root = parted x.key 8 0 x.over w t.over t.root.full

  pub under-inside : x.under < count (page b w)
  under-inside = omega (arith, in-base.inside, es-length)

  pub over-inside : x.over < count (page 0 w)
  over-inside = omega (arith, in-root.inside, top-length)

  -- the base page has another entry
  pub out-leaf : 2 ≤ count (page b w)
      → empty_out x.key b p ps ≡ sheets (rewritten ps b base.sign (without x.under es) ∷ anew p empty.sign [] ∷ [])
  unfolding empty_out
  out-leaf h =
      let more : 1 ≤ length (without x.under es) = without_more x.under es in-base.inside (omega (arith, es-length)) in
      rw (get_or-pages b w t.base.inside, unite-is x.key x.under es in-base)
      (pick_true _ _ _ (le-leb 1 (length (without x.under es)) more) ∙ ap sheets (order-two _ _ (omega (arith, t.basic, t.leafy))))

  -- it has not
  module _ (only : count (page b w) ≡ 1) where
    out-base : (right : List Sheet) → right_lowered (take x.over top) (get_or top x.over []) (drop (x.over + 1) top) ps ≡ right
        → empty_out x.key b p ps
        ≡ sheets (in_order (rewritten ps 0 root.sign (without x.over top) ∷ anew b empty.sign [] ∷ anew p empty.sign [] ∷ right))
    unfolding empty_out
    out-base right e =
        let none : length (without x.under es) ≡ 0 = without-only x.under es in-base.inside (es-length ∙ only) in
        rw (
          get_or-pages b w t.base.inside,
          unite-is x.key x.under es in-base,
          root-entries w,
          unite-is x.key x.over top in-root,
          in-root.front,
          in-root.here,
          in-root.back,
          e,
        )
        (pick-false _ _ _ (lt-leb 1 (length (without x.under es)) (omega arith)))

    pub out-left : 0 < x.over
        → empty_out x.key b p ps ≡ sheets (rewritten ps 0 root.sign (without x.over top) ∷ anew b empty.sign [] ∷ anew p empty.sign [] ∷ [])
    out-left h =
        out-base [] (right-none x.over _ top _ ps h in-root.inside)
        ∙ ap sheets (order-three _ _ _ (omega (arith, t.basic)) (omega (arith, t.basic, t.leafy)))

    pub out-only : x.over ≤ 0 → count (page 0 w) ≡ 1
        → empty_out x.key b p ps ≡ sheets (rewritten ps 0 root.sign (without x.over top) ∷ anew b empty.sign [] ∷ anew p empty.sign [] ∷ [])
    out-only h k =
        let z : x.over ≡ 0 = omega arith in
        out-base [] (rw z (right_end _ top ps (top-length ∙ k)))
        ∙ ap sheets (order-three _ _ _ (omega (arith, t.basic)) (omega (arith, t.basic, t.leafy)))

    module _ (h : x.over ≤ 0) (two : 2 ≤ count (page 0 w)) (q k : ℕ) (eq : q ≡ to_page (get_or top 1 [])) (ek : k ≡ key_of (get_or top 0 [])) (past : 0 < q) (low : q ≤ 7) where
      right_is : right_lowered (take x.over top) (get_or top x.over []) (drop (x.over + 1) top) ps
          ≡ rewritten ps q base.sign (lowered k (rows 8 (page q w))) ∷ []
      unfolding under
      right_is =
          let z : x.over ≡ 0 = omega arith in
          rw (z, ek) (right-some (get_or top 0 []) top ps (omega (arith, top-length)) ∙ rw (← eq, get_or-pages q w (omega arith)))

      pub out-right : b < q
          → empty_out x.key b p ps
          ≡ sheets
          (rewritten ps 0 root.sign (without x.over top) ∷ anew b empty.sign [] ∷ rewritten ps q base.sign (lowered k (rows 8 (page q w))) ∷ anew p empty.sign [] ∷ [])
      out-right l = out-base _ right_is ∙ ap sheets (order-four _ _ _ _ (omega (arith, t.basic)) l (omega (arith, t.leafy)))

      pub out-right-first : q ≤ b
          → empty_out x.key b p ps
          ≡ sheets
          (rewritten ps 0 root.sign (without x.over top) ∷ rewritten ps q base.sign (lowered k (rows 8 (page q w))) ∷ anew b empty.sign [] ∷ anew p empty.sign [] ∷ [])
      out-right-first l = out-base _ right_is ∙ ap sheets (order-four-swap _ _ _ _ past l (omega (arith, t.basic, t.leafy)))

-- ---- a record taken out of a leaf

module _ (w : List ℕ) (key b p i k : ℕ) (s : Stands w p key i k) (small : p < 64) where
  abbrev old : List (List ℕ)
  old = rows 16 (page p w)

  pub from-none : k ≤ i → delete_from key b p (pages w) ≡ cannot 15
  unfolding delete_from
  from-none h = rw (get_or-pages p w small) (need-false _ _ _ (s.found ∙ le-ltb i k h))

  taken_is : without_key key old ≡ take i old ++ drop k old
  unfolding without_key
  taken_is = rw (s.low, s.high)

  taken-length : length (take i old ++ drop k old) ≡ i + (count (page p w) - k)
  taken-length =
      length-append (take i old) (drop k old)
      ∙ (let n : length old ≡ count (page p w) = length-rows 16 (page p w) in
      let a : length (take i old) ≡ i = length-take-le i old (omega (arith, s.order, s.inside)) in
      let d : length (drop k old) ≡ length old - k = length-drop k old in
      omega arith)

  module _ (h : i < k) where
    pub from-leaf : (count (page p w) ≡ 1 → ⊥) → delete_from key b p (pages w) ≡ sheets (rewritten (pages w) p leaf.sign (take i old ++ drop k old) ∷ [])
    unfolding delete_from
    from-leaf ne =
        let two : 2 ≤ count (page p w) = two-of _ (count (page p w)) refl (omega (arith, s.inside)) ne in
        rw (get_or-pages p w small)
        (need-true _ _ _ (s.found ∙ lt-ltb i k h)
        ∙ rw taken_is (pick_true _ _ _ (le-leb 1 (length (take i old ++ drop k old)) (omega (arith, taken-length, s.lone, s.inside)))))

    pub from_empty : count (page p w) ≡ 1 → delete_from key b p (pages w) ≡ empty_out key b p (pages w)
    unfolding delete_from
    from_empty one =
        rw (get_or-pages p w small)
        (need-true _ _ _ (s.found ∙ lt-ltb i k h)
        ∙ rw taken_is (pick-false _ _ _ (lt-leb 1 (length (take i old ++ drop k old)) (omega (arith, taken-length, s.lone, s.inside)))))

-- ---- by the root

module _ (key : ℕ) (w : List ℕ) where
  root-length : length (root_entries (pages w)) ≡ count (page 0 w)
  root-length = ap length (root-entries w) ∙ length-rows 8 (page 0 w)

  pub delete-none : count (page 0 w) ≡ 0 → delete_sheets key (pages w) ≡ cannot 15
  unfolding delete_sheets
  delete-none h = need-false _ _ _ (lt-leb 1 (length (root_entries (pages w))) (omega (arith, root-length)))

  pub delete-below : (b p : ℕ) → b ≡ base_for key (pages w) → p ≡ leaf_for key (pages w) → 0 < count (page 0 w)
      → delete_sheets key (pages w) ≡ delete_from key b p (pages w)
  unfolding delete_sheets
  delete-below b p f g h = rw (f, g) (need-true _ _ _ (le-leb 1 (length (root_entries (pages w))) (omega (arith, root-length))))
