-- What demand 3 asks of a unit on a well-formed tree: that its steps, carried out one after the other, are each accepted, append as many
-- bytes as begin counted, and leave a well-formed tree with the same records. Assumes nothing.
use Rattle.std.specs.Prelude.{ℕ, ◌+◌, ◌≤◌, ◌≡◌, true, false, List, [], ◌∷◌, length}
use Rattle.std.proofs.Math.Option.{Option, some, none}
use Rattle.field.specs.Bytes.{Bytes, most4}
use Rattle.page.specs.Page.{formed}
use Rattle.page.specs.Pages.{page, pages, all_formed}
use Rattle.logs.specs.Record.{Begin, saves, Rec, size}
use Rattle.logs.specs.Plan.{Step, plan}
use Rattle.logs.specs.Log.{begin_ok}
use Rattle.tree.specs.Tree.{well_formed, all_records}
use Rattle.unit.specs.Choice.{compact_unit, order_unit}
use Rattle.unit.specs.Next.{apply, target_of, page_of, next_rec, step_size, room}

-- 64 pages of bytes, in form
pub record Sound (w : List ℕ) : Type 0 where
  pub whole : length w ≡ 16384
  pub bytes : Bytes w
  pub form : all_formed 0 (pages w) ≡ true

-- and they hold a well-formed tree
pub record Tidy (w : List ℕ) : Type 0 where
  pub whole : length w ≡ 16384
  pub bytes : Bytes w
  pub form : all_formed 0 (pages w) ≡ true
  pub tree : well_formed (pages w) ≡ true

-- the page that a step changes, if there is one, is in form: test 3 of the step passes
abbrev pub InForm : Option ℕ → List ℕ → Type 0
InForm none w = Unit {0}
InForm (some p) w = formed p (page p w) ≡ true

-- The steps todo, carried out from the work pages w, lead to the pages w' and append the records rs. The first of these has the number n; the
-- unit's records before it are did, the latest first. No step is refused: its page is in form (3), its record is found and its change can be
-- made (5), it appends the bytes that were counted for it and leaves the count of the steps after it as it was (6). After each step all
-- pages are in form
pub data Carried : (n : ℕ) (did : List Rec) (todo : List Step) (w w' : List ℕ) (rs : List Rec) → Type 0 where
  done : {n : ℕ} {did : List Rec} {w : List ℕ} → Carried n did [] w w []
  step : {n : ℕ} {did : List Rec} {x : Step} {xs : List Step} {w v w' : List ℕ} {r : Rec} {rs : List Rec} → InForm (target_of x) w
      → next_rec x did (page_of (target_of x) w) ≡ some r → apply n r w ≡ some v → size r ≡ step_size w x → room v xs ≡ room w xs → Sound v
      → Carried (n + 1) (r ∷ did) xs v w' rs → Carried n did (x ∷ xs) w w' (r ∷ rs)

-- a unit that can be carried out to its end, from its begin record on, and keeps the tree and its records
pub record Keeps (n : ℕ) (g : Begin) (w : List ℕ) : Type 0 where
  pub ok : begin_ok g ≡ true
  pub plain : saves g ≡ false
  pub after : List ℕ
  pub recs : List Rec
  pub carried : Carried n [] (plan g) w after recs
  pub tidy : Tidy after
  pub same : all_records (pages after) ≡ all_records (pages w)

-- THE TREE HALF OF DEMAND 3, for both begins: whatever they choose on tidy pages is such a unit. Its first record is numbered n, and all its
-- numbers fit four bytes, as test 7 of begin says
abbrev pub CompactKeeps : Type 0
CompactKeeps =
    (w : List ℕ) → Tidy w → (n unit fill : ℕ) (lk : Option ℕ) (g : Begin) → unit ≤ most4 → fill ≤ 15 → compact_unit unit fill lk (pages w) ≡ some g
    → n + length (plan g) ≤ most4 + 1 → Keeps n g w

-- the same for begin order
abbrev pub OrderKeeps : Type 0
OrderKeeps =
    (w : List ℕ) → Tidy w → (n unit : ℕ) (g : Begin) → unit ≤ most4 → order_unit unit (pages w) ≡ some g → n + length (plan g) ≤ most4 + 1 → Keeps n g w
