-- What the formats must meet for the promise of Store.antt to follow: `PageLaws` of pages and page changes, `UnitLaws` of units and
-- checkpoints. A law on a page change speaks only of a record that stands in a log of good form, for then its pages and its number are in
-- range. Assumes nothing.
use Rattle.std.specs.Prelude.{ℕ, suc, ◌+◌, ◌<◌, ◌≡◌, List, [], ◌∷◌, ◌++◌, ◌⊎◌, ◌≢◌}
use Rattle.std.proofs.Math.Option.{some}
use Rattle.replay.specs.Store.{Format, last, again, Meaning, Formed, Settled}

-- something of every record and its number, the first numbered n
pub data Each {R : Type 0} (A : ℕ → R → Type 0) : (n : ℕ) → List R → Type 0 where
  none : {n : ℕ} → Each A n []
  also : {n : ℕ} {r : R} {rs : List R} → A n r → Each A (n + 1) rs → Each A n (r ∷ rs)

module _ (F : Format) (M : Meaning F) where
  open F use {Page, Pages, Rec, Check, many, at, copy, stamp, change, apply, repeat, left, next}
  open M use {Sized, Form, Shape, Fine, Begins, Checks, Tears, Event}

  -- the record numbered n ends a log of good form
  pub record Stands (n : ℕ) (r : Rec) : Type 0 where
    pub top : Check
    pub before : List Rec
    pub numbered : n ≡ last F top before + 1
    pub shape : Shape top (before ++ (r ∷ []))

  -- the record numbered n concerns page p: whatever page with a lower number it is accepted on, it gives it its own, and keeps the form
  pub record Touches (p n : ℕ) (r : Rec) : Type 0 where
    pub stamped : (pg pg' : Page) → Form p pg → stamp pg < n → change n r p pg ≡ some pg' → stamp pg' ≡ n
    pub formed : (pg pg' : Page) → Form p pg → stamp pg < n → change n r p pg ≡ some pg' → Form p pg'

  -- it does not: whatever page stands there stays
  abbrev pub Passes : (p n : ℕ) → Rec → Type 0
  Passes p n r = (pg : Page) → Form p pg → change n r p pg ≡ some pg

  pub record PageLaws : Type 0 where
    -- pages are no more than what stands at their numbers
    pub same-pages : (v w : Pages) → Sized v → Sized w → ((p : ℕ) → p < many → at v p ≡ at w p) → v ≡ w
    -- one page copied
    pub copy-sized : (v w : Pages) (p : ℕ) → Sized v → Sized w → p < many → Sized (copy p v w)
    pub copy-same : (v w : Pages) (p : ℕ) → Sized v → Sized w → p < many → at (copy p v w) p ≡ at v p
    pub copy-other : (v w : Pages) (p q : ℕ) → Sized v → Sized w → p < many → q < many → q ≢ p
        → at (copy p v w) q ≡ at w q
    -- a record concerns a page or does not, whatever stands there
    pub concerns : (n : ℕ) (r : Rec) (p : ℕ) → Stands n r → p < many → Touches p n r ⊎ Passes p n r
    -- a record that a step applies is its change of each page
    pub applied : (n : ℕ) (r : Rec) (v w : Pages) → Stands n r → Formed F M v → apply n r v ≡ some w
        → Sized w × ((p : ℕ) → p < many → change n r p (at v p) ≡ some (at w p))
    -- a record repeated is its change of each page with a lower stamp, and is refused only where one of these is
    pub repeated : (n : ℕ) (r : Rec) (v w : Pages) → Stands n r → Formed F M v → repeat n r v ≡ some w
        → Sized w × ((p : ℕ) → p < many → again F n r p (at v p) ≡ some (at w p))
    pub repeat-accepted : (n : ℕ) (r : Rec) (v : Pages) → Stands n r → Formed F M v
        → ((p : ℕ) → p < many → (pg : Page) × (again F n r p (at v p) ≡ some pg)) → (w : Pages) × (repeat n r v ≡ some w)

  -- the open unit can be finished: the log is in form, and either no unit is open and the tree is fine, or the next record applies, after
  -- which one fewer is lacking and the unit can still be finished
  pub data Able (o : Pages) (c : Check) : (w : Pages) (l : List Rec) → Type 0 where
    closed : {w : Pages} {l : List Rec}
        → Shape c l → left c w l ≡ 0 → Fine o l w
        → Able o c w l
    more : {w w' : Pages} {l : List Rec} {r : Rec} {k : ℕ}
        → Shape c l → left c w l ≡ suc k → left c w' (l ++ (r ∷ [])) ≡ k
        → next c w l ≡ some r → apply (last F c l + 1) r w ≡ some w' → Able o c w' (l ++ (r ∷ []))
        → Able o c w l

  -- a rewriting keeps the form, every number, and what can be finished
  pub record Rewritten (o : Pages) (c : Check) (w : Pages) (l : List Rec) (w' : Pages) : Type 0 where
    pub formed : Formed F M w'
    pub stamps : (p : ℕ) → p < many → stamp (at w' p) ≡ stamp (at w p)
    pub able : Able o c w' l

  pub record UnitLaws : Type 0 where
    -- a unit that is begun between two units can be finished
    pub unit : (o : Pages) (c : Check) (w w' : Pages) (l : List Rec) (r : Rec) → Settled F M o w c l → Begins c w l r
        → apply (last F c l + 1) r w ≡ some w' → Able o c w' (l ++ (r ∷ []))
    -- a checkpoint leaves pages, the same in work and store, and a log with which the next run can start
    pub checked : (o : Pages) (c c' : Check) (w w' s' : Pages) (l : List Rec) → Settled F M o w c l → Checks c w w l c' w' s'
        → Settled F M w' w' c' [] × (w' ≡ s')
    pub rewritten : (o : Pages) (c : Check) (w w' : Pages) (l : List Rec) → Formed F M w → Able o c w l → Event c w l w'
        → Rewritten o c w l w'
    -- what a checkpoint after l and t leaves when it is cut, a rewriting after l makes, where the records t, which may be lost, concern no page
    pub torn : (o : Pages) (c : Check) (w s : Pages) (l t : List Rec) → Settled F M o w c (l ++ t) → Tears c w (l ++ t) s
        → ((p : ℕ) → p < many → Each (Passes p) (last F c l + 1) t) → Event c w l s
