-- The two halves of a full leaf with a record more, as drafts, and the smallest key of the upper one. Assumes nothing.
use Prim.Native.Nat.{ℕ, ◌-◌, ◌≤◌, ◌<◌}
use native.Mathlib.Omega.{arith}
use mathlib.Core.Path.{◌≡◌, refl, sym, ap, ◌∙◌}
use mathlib.Core.Bool.{true, false}
use mathlib.Core.List.{List, [], append-nil}
use lib.ListN.{length, take, drop, get_or, length-drop}
use lib.Seq.{take_all}
use Rattle.field.specs.Test.{pick}
use Rattle.field.specs.declared.PageNo.{PageNo}
use Rattle.page.specs.Page.{leaf, key_of, count, rows}
use Rattle.page.specs.Pages.{page, pages}
use Rattle.page.specs.Places.{Leafy}
use Rattle.page.proofs.Rows.{length-rows}
use Rattle.saving.specs.Save.{rewritten, anew}
use Rattle.saving.specs.Draft.{with_at, inserted, spare_of, sheet_of, Draws}
use Rattle.saving.specs.declared.draft.More.TheVariants.{Nothing, Record}
use Rattle.saving.proofs.Shapes.{run-front, run-to, run-back, spare-kept, lower-new, lower-old, upper-new, upper-old, ninth-old, ninth-new, ninth-front}

module _ (w : List ℕ) (p : PageNo) (i : ℕ) (leafy : Leafy p.0) (full : count (page p.0 w) ≡ 15) where
  abbrev old : List (List ℕ)
  old = rows 16 (page p.0 w)

  old-length : length old ≡ 15
  old-length = length-rows 16 (page p.0 w) ∙ full

  small : p.0 < 64
  small = omega (arith, leafy.1)

  pub lower-with : i < 8
      → Draws w (record { page = p; sign = 108; kept = true; size = 16; source = p; from = 0; many = i; more = Record; next = i; rest = 7 - i })
      (λ r. rewritten (pages w) p.0 leaf.sign (take 8 (with_at i r old)))
  unfolding sheet_of inserted
  lower-with h =
      record {
        same = λ r. rw (run-front 16 p.0 w small i, run-to 16 p.0 w small i (7 - i), spare-kept p.0 (pages w), lower-new i r old old-length h);
        ready = record {
          inside = small;
          source = small;
          front = record { there = omega arith; fits = omega arith };
          suits = refl;
          back = record { there = omega arith; fits = omega arith };
          room = omega arith;
          few = omega arith;
        };
      }

  pub lower-without : 8 ≤ i → i ≤ 15
      → Draws w (record { page = p; sign = 108; kept = true; size = 16; source = p; from = 0; many = 8; more = Nothing; next = 0; rest = 0 })
      (λ r. rewritten (pages w) p.0 leaf.sign (take 8 (with_at i r old)))
  unfolding sheet_of inserted
  lower-without h k =
      record {
        same = λ r. rw (run-front 16 p.0 w small 8, run-front 16 p.0 w small 0, spare-kept p.0 (pages w), lower-old i r old old-length h k, append-nil (take 8 old));
        ready = record {
          inside = small;
          source = small;
          front = record { there = omega arith; fits = omega arith };
          suits = tt;
          back = record { there = omega arith; fits = omega arith };
          room = omega arith;
          few = omega arith;
        };
      }

  module _ (q : PageNo) (there : Leafy q.0) where
    small-q : q.0 < 64
    small-q = omega (arith, there.1)

    pub upper-without : i < 8
        → Draws w (record { page = q; sign = 108; kept = false; size = 16; source = p; from = 7; many = 8; more = Nothing; next = 0; rest = 0 })
        (λ r. anew q.0 leaf.sign (drop 8 (with_at i r old)))
    unfolding sheet_of inserted spare_of pick
    upper-without h =
        let all : take 8 (drop 7 old) ≡ drop 7 old = take_all 8 (drop 7 old) (rw (length-drop 7 old, old-length) (omega arith)) in
        record {
          same = λ r. rw (run-to 16 p.0 w small 7 8, run-front 16 p.0 w small 0, upper-old i r old old-length h, all, append-nil (drop 7 old));
          ready = record {
            inside = small-q;
            source = small;
            front = record { there = omega arith; fits = omega arith };
            suits = tt;
            back = record { there = omega arith; fits = omega arith };
            room = omega arith;
            few = omega arith;
          };
        }

    pub upper-with : 8 ≤ i → i ≤ 15
        → Draws w (record { page = q; sign = 108; kept = false; size = 16; source = p; from = 8; many = i - 8; more = Record; next = i; rest = 15 - i })
        (λ r. anew q.0 leaf.sign (drop 8 (with_at i r old)))
    unfolding sheet_of inserted spare_of pick
    upper-with h k =
        record {
          same = λ r. rw (run-to 16 p.0 w small 8 (i - 8), run-back 16 p.0 w small i 15 (sym full), upper-new i r old old-length h k);
          ready = record {
            inside = small-q;
            source = small;
            front = record { there = omega arith; fits = omega arith };
            suits = refl;
            back = record { there = omega arith; fits = omega arith };
            room = omega arith;
            few = omega arith;
          };
        }

-- the smallest key of the upper half
module _ (w : List ℕ) (p i key k : ℕ) (full : count (page p w) ≡ 15) (r : List ℕ) (e : key ≡ key_of r) where
  long : length (rows 16 (page p w)) ≡ 15
  long = length-rows 16 (page p w) ∙ full

  pub upper_first : i < 8 → k ≡ key_of (get_or (rows 16 (page p w)) 7 []) → k ≡ key_of (get_or (with_at i r (rows 16 (page p w))) 8 [])
  upper_first h f = f ∙ sym (ap key_of (ninth-old i r (rows 16 (page p w)) long h))

  pub upper-later : 8 < i → i ≤ 15 → k ≡ key_of (get_or (rows 16 (page p w)) 8 []) → k ≡ key_of (get_or (with_at i r (rows 16 (page p w))) 8 [])
  upper-later h l f = f ∙ sym (ap key_of (ninth-front i r (rows 16 (page p w)) long h l))

  pub upper-here : 8 ≤ i → i ≤ 8 → key ≡ key_of (get_or (with_at i r (rows 16 (page p w))) 8 [])
  upper-here h l = e ∙ sym (ap key_of (ninth-new i r (rows 16 (page p w)) long (omega arith)))
