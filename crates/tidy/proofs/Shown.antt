-- The pages show a tree; what a step was that leads from one to the next; and what a page replaced leaves of the tree and of the room.
-- Assumes nothing.
use Prim.Native.Nat.{ℕ, ◌≤◌, ◌<◌}
use native.Mathlib.Omega.{arith}
use mathlib.Core.Path.{◌≡◌, refl, sym, ap₂, ◌∙◌}
use mathlib.Core.Logic.{◌≢◌, ◌⊎◌}
use mathlib.Core.Bool.{true, cond}
use mathlib.Core.List.{List, [], ◌∷◌}
use mathlib.Core.Option.{some}
use lib.Dec.{eqb}
use lib.ListN.{length}
use Rattle.field.specs.Bytes.{Bytes}
use Rattle.page.specs.Page.{entries, records, formed}
use Rattle.page.specs.Pages.{page, put_page}
use Rattle.page.specs.Places.{Leafy, Basic}
use Rattle.logs.specs.Record.{Rec, outs, size}
use Rattle.logs.specs.Plan.{Step, take_out, bring_in, point, close}
use Rattle.logs.specs.Valid.{Moved}
use Rattle.unit.specs.Next.{apply, target_of, page_of, next_rec, step_size, room}
use Rattle.unit.proofs.Places.{Keeping, no_step, one_more}
use Rattle.tidy.specs.Tidy.{Sound, InForm}
use Rattle.tidy.proofs.Model.{Entry, upd, State, state}
use Rattle.tidy.proofs.Entries.{ents}
use Rattle.tidy.proofs.Pages.{sound-put, page-other, leaf_of, base_of, put-leaf, put-leaf-base, put-base, put-base-leaf}

-- the pages w show the tree s
pub record Shows (w : List ℕ) (s : State) : Type 0 where
  pub sound : Sound w
  pub leaves : (p : ℕ) → s.leaf p ≡ leaf_of w p
  pub bases : (p : ℕ) → s.base p ≡ base_of w p

-- every LO of these records carries rows that an LI can append
abbrev pub AllMoved : List Rec → Type 0
AllMoved [] = Unit {0}
AllMoved (r ∷ did) = ((outs r ≡ []) ⊎ Moved (outs r)) × AllMoved did

-- page p is taken out by none of these steps
abbrev pub Clear : ℕ → List Step → Type 0
Clear p [] = Unit {0}
Clear p (take_out q d ∷ xs) = (q ≢ p) × Clear p xs
Clear p (bring_in q d k ∷ xs) = Clear p xs
Clear p (point b old new other ∷ xs) = Clear p xs
Clear p (close u ∷ xs) = Clear p xs

-- a step x was made from the pages w, with the record r, and leads to the tree s'; the steps xs come after it
pub record Stepped (n : ℕ) (did : List Rec) (x : Step) (xs : List Step) (w : List ℕ) (r : Rec) (s' : State) : Type 0 where
  pub now : List ℕ
  pub form : InForm (target_of x) w
  pub next : next_rec x did (page_of (target_of x) w) ≡ some r
  pub applied : apply n r w ≡ some now
  pub counted : size r ≡ step_size w x
  pub left : room now xs ≡ room w xs
  pub shows : Shows now s'
  pub top : page 0 now ≡ page 0 w

-- ---- what a page replaced leaves of the room

module _ (p : ℕ) (pg w : List ℕ) (sound : Sound w) (small : p < 64) (long : length pg ≡ 256) where
  -- where none of the steps takes that page out
  pub room-put : (xs : List Step) → Clear p xs → room (put_page p pg w) xs ≡ room w xs
  unfolding room step_size
  room-put [] c = refl
  room-put (take_out q d ∷ xs) c = rw (page-other p pg w sound small long q c.0, room-put xs c.1)
  room-put (bring_in q d k ∷ xs) c = rw (room-put xs c)
  room-put (point b old new other ∷ xs) c = rw (room-put xs c)
  room-put (close u ∷ xs) c = rw (room-put xs c)

-- steps that keep to the regions take out no base page
pub base-clear : (p : ℕ) {xs : List Step} → p ≤ 7 → Keeping xs → Clear p xs
base-clear p h no_step = tt
base-clear p h (one_more {x = take_out q d} k ks) = (λ e. omega (arith, k.0), base-clear p h ks)
base-clear p h (one_more {x = bring_in q d b} k ks) = base-clear p h ks
base-clear p h (one_more {x = point q old new other} k ks) = base-clear p h ks
base-clear p h (one_more {x = close u} k ks) = base-clear p h ks

-- ---- a leaf page replaced, a base page replaced

module _ (w : List ℕ) (l : ℕ → List (List ℕ)) (b : ℕ → List Entry) (sh : Shows w (state l b)) (p : ℕ) (pg : List ℕ) (long : length pg ≡ 256) (bytes : Bytes pg) where
  -- the tree with a leaf replaced
  pub shows-leaf : Leafy p → formed p pg ≡ true → (v : List (List ℕ)) → records pg ≡ v → Shows (put_page p pg w) (state (upd l p v) b)
  shows-leaf h f v e =
      let small : p < 64 = omega (arith, h.1) in
      record {
        sound = sound-put p pg w sh.sound small long bytes f;
        leaves = λ q. ap₂ (λ (x y : List (List ℕ)). cond (eqb q p) x y) (sym e) (sh.leaves q) ∙ put-leaf p pg w sh.sound small long h.0 q;
        bases = λ q. sh.bases q ∙ put-leaf-base p pg w sh.sound small long h.0 q;
      }

  -- the tree with a base page replaced
  pub shows-base : Basic p → formed p pg ≡ true → (v : List Entry) → ents (entries pg) ≡ v → Shows (put_page p pg w) (state l (upd b p v))
  shows-base h f v e =
      let small : p < 64 = omega (arith, h.1) in
      record {
        sound = sound-put p pg w sh.sound small long bytes f;
        leaves = λ q. sh.leaves q ∙ put-base-leaf p pg w sh.sound small long h.1 q;
        bases = λ q. ap₂ (λ (x y : List Entry). cond (eqb q p) x y) (sym e) (sh.bases q) ∙ put-base p pg w sh.sound small long h.0 h.1 q;
      }
