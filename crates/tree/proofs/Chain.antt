-- The clauses of the well-formed tree put together, in their order; the root is lent as the front of all pages. The laws that end in `!`
-- are for `search`. Assumes nothing.
use Prim.Native.Nat.{ℕ, ◌+◌, ◌*◌, ◌≤◌, ◌<◌}
use native.Mathlib.Nat.{not-suc-le-zero}
use native.Mathlib.Omega.{arith}
use mathlib.Core.Path.{◌≡◌, refl, sym, ap, ◌∙◌}
use mathlib.Core.Bool.{Bool, true, false, not}
use mathlib.Core.List.{List, [], ◌∷◌, ◌++◌}
use lib.ListN.{length, take, drop, get_or, length-drop}
use lib.Dec.{eqb}
use borrow.Author.Tests.{not-true, not-false}
use Rattle.field.specs.Test.{all}
use Rattle.field.specs.Bytes.{part, zeroes, Bytes, le4}
use Rattle.field.proofs.Test.{all_one, all_true, all-false}
use Rattle.field.proofs.Part.{split}
use Rattle.field.proofs.Zero.{get_or-zeroes}
use Rattle.page.specs.Page.{rows_of, key_of, to_page, pointing, count, rows, first_base, last_base, to_bases}
use Rattle.page.specs.Pages.{page, pages}
use Rattle.page.specs.Each.{Each}
use Rattle.page.proofs.Rows.{length-rows, bytes-rows_of}
use Rattle.page.proofs.Pages.{get_or-pages, length-pages}
use Rattle.tree.specs.Tree.{under, root_entries, below, base_entries, pointers, pointed_once, starts_at_zero, headed, keys_kept, well_formed}
use Rattle.tree.specs.Walk.{InForm, Below, Above, Tallied, Roomy, kept_to, level_to, rightly}
use Rattle.tree.proofs.Regions.{root-points}
use Rattle.tree.proofs.Turn.{first-page, pointing-wider}
use Rattle.tree.proofs.Tally.{pointers-append, pointers-few, right-pointed}
use Rattle.tree.proofs.Between.{top, kept-to, level-to}
use Rattle.tree.proofs.Sound.{root-entries, root-formed, root-ordered, all-over, each_map}

-- ---- the root where it is lent

pub root-lent : (w : List ℕ) → take 256 w ≡ page 0 w
unfolding page part
root-lent w = refl

module _ (w : List ℕ) (f : InForm w) (n : ℕ) (e : n ≡ count (page 0 w)) where
  pub root-rows : rows_of 8 n (drop 16 (take 256 w)) ≡ root_entries (pages w)
  root-rows = rw (root-lent w, e, root-entries w) (unfold rows in refl)

  pub root-few : n ≤ 30
  root-few = omega (arith, (root-ordered w f).room)

  pub root-room : 16 + 8 * n ≤ length (take 256 w)
  root-room = rw (root-lent w) (omega (arith, (root-ordered w f).room, (root-ordered w f).whole))

  pub root-points-in : to_bases (rows_of 8 n (drop 16 (take 256 w))) ≡ true
  root-points-in = rw (root-rows, root-entries w) (root-points (page 0 w) (root-formed w f))

  pub root-points-wide : pointing 0 63 (rows_of 8 n (drop 16 (take 256 w))) ≡ true
  root-points-wide = pointing-wider first_base last_base 0 63 _ (omega arith) (omega arith) root-points-in

  -- ---- counting

  pub zeroes-roomy : Roomy (zeroes 64) n
  zeroes-roomy = record { room = λ p h. rw (get_or-zeroes 64 p h) (omega (arith, root-few)) }

  module _ (first : List ℕ) (t : Tallied first [] (zeroes 64) (rows_of 8 n (drop 16 (take 256 w)))) where
    counted : (p : ℕ) → p < 64 → get_or first p 0 ≡ pointers p (root_entries (pages w))
    unfolding pointers
    counted p h =
        let s : get_or first p 0 + 0 ≡ 0 + pointers p (root_entries (pages w)) = rw (root-rows, get_or-zeroes 64 p h) at (t.same p h) in
        omega arith

    pub first-roomy : Roomy first (30 * n)
    first-roomy =
        let k : length (root_entries (pages w)) ≡ n = rw (root-entries w) (length-rows 8 (page 0 w) ∙ sym e) in
        record { room = λ p h. omega (arith, counted p h, pointers-few p (root_entries (pages w)), root-few) }

    pub once-counted! : (sums : List ℕ) (z : Bool) → Tallied sums [] first (below 8 (pages w) (rows_of 8 n (drop 16 (take 256 w)))) → z ≡ rightly sums 1 (drop 1 (pages w))
        → z ≡ pointed_once (root_entries (pages w) ++ base_entries (pages w)) 1 (drop 1 (pages w))
    unfolding base_entries pointers
    once-counted! sums z u g =
        let es : List (List ℕ) = root_entries (pages w) in
        let ld : length (drop 1 (pages w)) ≡ 63 = length-drop 1 (pages w) ∙ rw (length-pages w) in
        let same : (p : ℕ) → p < 64 → get_or sums p 0 ≡ pointers p (es ++ below 8 (pages w) es) =
        λ p h. let s : get_or sums p 0 + 0 ≡ get_or first p 0 + pointers p (below 8 (pages w) es) = rw root-rows at (u.same p h) in
        omega (arith, counted p h, pointers-append p es (below 8 (pages w) es)) in
        g ∙ right-pointed sums (es ++ below 8 (pages w) es) 1 (drop 1 (pages w)) same (omega arith)

-- ---- the first root entry

starts-head : (es : List (List ℕ)) → 0 < length es → starts_at_zero es ≡ eqb (key_of (get_or es 0 [])) 0
unfolding starts_at_zero
starts-head [] h = absurd (not-suc-le-zero h)
starts-head (x ∷ xs) h = refl

starts-nil : (es : List (List ℕ)) → length es ≡ 0 → starts_at_zero es ≡ true
unfolding starts_at_zero
starts-nil [] h = refl
starts-nil (x ∷ xs) h = absurd (let y : ⊥ = omega arith in y)

module _ (w : List ℕ) (n : ℕ) (e : n ≡ count (page 0 w)) where
  pub starts-none! : n ≡ 0 → true ≡ starts_at_zero (root_entries (pages w))
  starts-none! h = sym (rw (root-entries w) (starts-nil (rows 8 (page 0 w)) (length-rows 8 (page 0 w) ∙ sym e ∙ h)))

  pub starts-first! : (k : ℕ) → (n ≡ 0 → ⊥) → k ≡ le4 w 18 → eqb k 0 ≡ starts_at_zero (root_entries (pages w))
  starts-first! k h g =
      let more : 0 < count (page 0 w) = split 0 n (λ a. omega arith) (λ a. absurd (h (omega arith))) in
      let l : 0 < length (rows 8 (page 0 w)) = rw (length-rows 8 (page 0 w)) more in
      rw (root-entries w, starts-head (rows 8 (page 0 w)) l, ← first-page 8 0 w (omega arith) more, g)

-- ---- all clauses

module _ (w : List ℕ) where
  clauses : (a b c d e : Bool) → Bool
  clauses a b c d e = all (a ∷ b ∷ c ∷ d ∷ e ∷ [])

  whole_is : well_formed (pages w)
      ≡ clauses (pointed_once (root_entries (pages w) ++ base_entries (pages w)) 1 (drop 1 (pages w))) (starts_at_zero (root_entries (pages w))) (headed (pages w) (root_entries (pages w)))
      (keys_kept 8 (pages w) (root_entries (pages w))) (keys_kept 16 (pages w) (base_entries (pages w)))
  unfolding well_formed clauses
  whole_is = refl

  module _ (a : Bool) (ea : a ≡ pointed_once (root_entries (pages w) ++ base_entries (pages w)) 1 (drop 1 (pages w))) where
    pub well-once! : not a ≡ true → false ≡ well_formed (pages w)
    unfolding clauses
    well-once! h = sym (whole_is ∙ all-false _ _ (sym ea ∙ not-true a h))

    module _ (ga : not a ≡ false) (f : InForm w) where
      pub once : pointed_once (root_entries (pages w) ++ base_entries (pages w)) 1 (drop 1 (pages w)) ≡ true
      once = sym ea ∙ not-false a ga

      pub entries_over : (n : ℕ) → n ≡ count (page 0 w) → Each (Above w) (rows_of 8 n (drop 16 (take 256 w)))
      entries_over n e = rw (root-rows w f n e, root-entries w) (all-over w f once)

      pub entries_below : (n : ℕ) → n ≡ count (page 0 w) → Each (Below 8 w) (rows_of 8 n (drop 16 (take 256 w)))
      entries_below n e = each_map (λ x h. h.base) (entries_over n e)

      full-under : Each (λ x. 0 < count (under (pages w) x)) (root_entries (pages w))
      unfolding under
      full-under = rw (root-entries w) (each_map (λ x h. rw (get_or-pages (to_page x) w h.base.inside) h.base.full) (all-over w f once))

      module _ (b : Bool) (eb : b ≡ starts_at_zero (root_entries (pages w))) where
        pub well-start! : not b ≡ true → false ≡ well_formed (pages w)
        unfolding clauses
        well-start! h = sym (whole_is ∙ all_true _ _ once ∙ all-false _ _ (sym eb ∙ not-true b h))

        module _ (gb : not b ≡ false) (n : ℕ) (e : n ≡ count (page 0 w)) (c : Bool) (ec : c ≡ headed (pages w) (rows_of 8 n (drop 16 (take 256 w)))) where
          c-is : c ≡ headed (pages w) (root_entries (pages w))
          c-is = ec ∙ rw (root-rows w f n e)

          pub well-head! : not c ≡ true → false ≡ well_formed (pages w)
          unfolding clauses
          well-head! h = sym (whole_is ∙ all_true _ _ once ∙ all_true _ _ (sym eb ∙ not-false b gb) ∙ all-false _ _ (sym c-is ∙ not-true c h))

          module _ (gc : not c ≡ false) (bytes : Bytes w) (d : Bool) (ed : d ≡ kept_to 8 (pages w) top (rows_of 8 n (drop 16 (take 256 w)))) where
            pages-bytes : Each Bytes (pages w)
            unfolding pages
            pages-bytes = bytes-rows_of 256 64 w bytes

            d-is : d ≡ keys_kept 8 (pages w) (root_entries (pages w))
            d-is = ed ∙ rw (root-rows w f n e) (sym (kept-to 8 (pages w) (root_entries (pages w)) pages-bytes))

            three : well_formed (pages w) ≡ all (d ∷ keys_kept 16 (pages w) (base_entries (pages w)) ∷ [])
            unfolding clauses
            three =
                whole_is ∙ all_true _ _ once ∙ all_true _ _ (sym eb ∙ not-false b gb) ∙ all_true _ _ (sym c-is ∙ not-false c gc)
                ∙ ap (λ (x : Bool). all (x ∷ keys_kept 16 (pages w) (base_entries (pages w)) ∷ [])) (sym d-is)

            pub well-kept : not d ≡ true → false ≡ well_formed (pages w)
            well-kept h = sym (three ∙ all-false _ _ (not-true d h))

            pub well-level : not d ≡ false → (y : Bool) → y ≡ level_to (pages w) top (rows_of 8 n (drop 16 (take 256 w))) → y ≡ well_formed (pages w)
            unfolding base_entries
            well-level h y ey =
                let es : List (List ℕ) = root_entries (pages w) in
                let k : keys_kept 16 (pages w) (below 8 (pages w) es) ≡ y =
                kept-to 16 (pages w) (below 8 (pages w) es) pages-bytes
                ∙ level-to top (pages w) es (sym c-is ∙ not-false c gc) full-under
                ∙ sym (ey ∙ rw (root-rows w f n e)) in
                sym (three ∙ all_true _ _ (not-false d h) ∙ all_one _ ∙ k)
