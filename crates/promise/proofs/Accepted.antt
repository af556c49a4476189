-- Where the generic half says that a begin or a step goes on, the call is accepted and leaves just that; so an uncut run in the generic
-- sense is a run of calls. Assumes nothing but the unit laws, which are handed in.
use Prim.Native.Nat.{ℕ, ◌+◌, ◌≤◌}
use native.Mathlib.Omega.{arith}
use mathlib.Core.Path.{◌≡◌, refl, sym, ap, ap₂, ◌∙◌, subst, subst₂}
use mathlib.Core.Logic.{inl, inr}
use mathlib.Core.Bool.{true}
use mathlib.Core.List.{List, [], ◌∷◌, ◌++◌}
use mathlib.Core.Option.{Option, some, none, some-injective}
use lib.ListN.{length, take}
use borrow.Author.Tests.{eq-eqb, le-leb}
use Rattle.field.specs.Bytes.{put, most4}
use Rattle.field.proofs.Test.{need-true, given-some}
use Rattle.page.specs.Page.{ascend_records}
use Rattle.page.specs.Pages.{pages}
use Rattle.page.proofs.Pages.{formed-pages}
use Rattle.logs.specs.Record.{Check, Begin, Rec, LB, size, encode, sizes}
use Rattle.logs.specs.Write.{save_of}
use Rattle.logs.specs.Plan.{plan}
use Rattle.logs.specs.Valid.{Good}
use Rattle.logs.proofs.Sound.{sound-at_end}
use Rattle.unit.specs.Choice.{compact_unit, order_unit}
use Rattle.unit.specs.Next.{apply, room}
use Rattle.saving.specs.Rest.{lacks, rest_of}
use Rattle.store.specs.Calls.{Lent, lent, Left, left, refused, begun_with, begun, begin_with, deleting, saving_all, begin_save, log_length}
use Rattle.store.specs.Calls as Calls
use Rattle.store.proofs.Chain.{not_there}
use Rattle.starting.proofs.Starts.{begun-begins}
use Rattle.replay.specs.Store.{Formed, Settled}
use Rattle.replay.specs.Store as Replay
use Rattle.replay.specs.Laws.{UnitLaws}
use Rattle.replay.proofs.Theorem.{ran_settled}
use Rattle.promise.specs.Parts.{log_of, state_of, store, asked, to-put, to-delete, Wants, tidying, saving, Begins}
use Rattle.promise.specs.Promise.{Uncut}
use Rattle.promise.proofs.OnPages.{page-laws}
use Rattle.promise.proofs.Image.{image, put-image, at-grown}
use Rattle.promise.proofs.Forward.{open_none}
use Rattle.promise.proofs.Standing.{last_fits}
use Rattle.promise.proofs.Live.{Ran, image-bare, stored, work-pages, two_sized_lem, known-ran}
use Rattle.promise.proofs.Called.{bare-at, nothing-forced, step_is, apply-begin}

-- the state after one record more
abbrev grown_by : (d : Lent) (c : Check) (l : List Rec) (r : Rec) (w' : List ℕ) → Lent
grown_by d c l r w' =
    lent ((state_of c l).at + size r) d.forced w' d.store (put (state_of c l).at (encode ((state_of c l).number + 1) r) d.log) d.bytes

-- the unit fits the log, and its numbers fit
abbrev Fitting : (c : Check) (l : List Rec) (g : Begin) (long many : ℕ) → Type 0
Fitting c l g long many =
    ((state_of c l).at + (size (LB g) + long) ≤ log_length) × ((state_of c l).number + (1 + many) ≤ most4) × (g.unit ≤ most4)

module _ (U : UnitLaws store asked) {origin : List ℕ} (d : Lent) (v : Ran origin d) (z : store.left v.top d.work v.recs ≡ 0) where
  -- ---- begin

  abbrev grown_to : Begin → Left
  grown_to g = left 0 [] (grown_by d v.top v.recs (LB g) d.work)

  fine : Settled store asked origin d.work v.top v.recs
  fine = ran_settled store asked page-laws U v.settled v.uncut z

  none_open : (state_of v.top v.recs).opened ≡ none
  none_open =
      let f : Formed store asked d.work = work-pages U d v in
      open_none (state_of v.top v.recs).opened (state_of v.top v.recs) d.work
      (sound-at_end (log_of v.top v.recs) (stored U d v).good).waits f.sized.0 f.sized.1 z

  begun-is : (g : Begin) (long many : ℕ) → Fitting v.top v.recs g long many → begun_with d (state_of v.top v.recs) g long many ≡ grown_to g
  begun-is g long many b = begun-begins d (state_of v.top v.recs) g long many (omega (arith, b.0)) (omega (arith, b.1)) b.2

  begin-is : (g : Begin) (choose : ℕ → List (List ℕ) → Option Begin) → choose ((state_of v.top v.recs).unit + 1) (pages d.work) ≡ some g
      → Fitting v.top v.recs g (room d.work (plan g)) (length (plan g)) → begin_with d (state_of v.top v.recs) choose ≡ grown_to g
  unfolding begin_with begun
  begin-is g choose e b =
      need-true _ (refused 0 9 d) _ (not_there (state_of v.top v.recs).opened none_open)
      ∙ need-true _ (refused 0 3 d) _ (formed-pages d.work fine.formed.form)
      ∙ need-true _ (refused 0 8 d) _ fine.fine.0
      ∙ given-some _ g (refused 0 11 d) _ e
      ∙ begun-is g _ _ b

  pub compact-is : (fill : ℕ) (g : Begin) → fill ≤ 15
      → compact_unit ((state_of v.top v.recs).unit + 1) fill (state_of v.top v.recs).lk (pages d.work) ≡ some g
      → Fitting v.top v.recs g (room d.work (plan g)) (length (plan g)) → Calls.begin_compact fill d ≡ grown_to g
  unfolding Calls.begin_compact
  compact-is fill g h e b =
      need-true _ (refused 0 1 d) _ (two_sized_lem U d v)
      ∙ given-some _ (log_of v.top v.recs) (refused 0 2 d) _ (known-ran U d v)
      ∙ need-true _ (refused 0 12 d) _ (le-leb fill 15 h)
      ∙ begin-is g _ e b

  pub order_is : (g : Begin) → order_unit ((state_of v.top v.recs).unit + 1) (pages d.work) ≡ some g
      → Fitting v.top v.recs g (room d.work (plan g)) (length (plan g)) → Calls.begin_order d ≡ grown_to g
  unfolding Calls.begin_order
  order_is g e b =
      need-true _ (refused 0 1 d) _ (two_sized_lem U d v)
      ∙ given-some _ (log_of v.top v.recs) (refused 0 2 d) _ (known-ran U d v)
      ∙ begin-is g order_unit e b

  save-is : (g : Begin) (rs : List Rec) → rest_of g ((state_of v.top v.recs).number + 1) [] d.work ≡ lacks rs
      → Fitting v.top v.recs g (sizes rs) (length rs) → begin_save d (state_of v.top v.recs) g ≡ grown_to g
  unfolding begin_save saving_all
  save-is g rs e b =
      need-true _ (refused 0 9 d) _ (not_there (state_of v.top v.recs).opened none_open)
      ∙ ap (saving_all d (state_of v.top v.recs) g) e
      ∙ begun-is g (sizes rs) (length rs) b

  -- a put or delete of this record
  module _ (type : ℕ) (r : List ℕ) (rs : List Rec)
      (e : rest_of (save_of ((state_of v.top v.recs).unit + 1) type r) ((state_of v.top v.recs).number + 1) [] d.work ≡ lacks rs)
      (b : Fitting v.top v.recs (save_of ((state_of v.top v.recs).unit + 1) type r) (sizes rs) (length rs)) where
    abbrev saved_to : Left
    saved_to = grown_to (save_of ((state_of v.top v.recs).unit + 1) type r)

    pub put_is : type ≡ 4 → r ≡ d.bytes → length r ≡ 16 → ascend_records 0 (r ∷ []) ≡ true → Calls.begin_put d ≡ saved_to
    unfolding Calls.begin_put
    put_is t q long mark =
        need-true _ (refused 0 1 d) _ (two_sized_lem U d v)
        ∙ given-some _ (log_of v.top v.recs) (refused 0 2 d) _ (known-ran U d v)
        ∙ need-true _ (refused 0 12 d) _ (eq-eqb (length d.bytes) 16 (ap length (sym q) ∙ long))
        ∙ need-true _ (refused 0 16 d) _ (ap (λ (x : List ℕ). ascend_records 0 (x ∷ [])) (sym q) ∙ mark)
        ∙ ap₂ (λ (k : ℕ) (x : List ℕ). begin_save d (state_of v.top v.recs) (save_of ((state_of v.top v.recs).unit + 1) k x)) (sym t) (sym q)
        ∙ save-is _ rs e b

    pub delete-is : (key : ℕ) → type ≡ 5 → r ≡ deleting key → Calls.begin_delete key d ≡ saved_to
    unfolding Calls.begin_delete
    delete-is key t q =
        need-true _ (refused 0 1 d) _ (two_sized_lem U d v)
        ∙ given-some _ (log_of v.top v.recs) (refused 0 2 d) _ (known-ran U d v)
        ∙ ap₂ (λ (k : ℕ) (x : List ℕ). begin_save d (state_of v.top v.recs) (save_of ((state_of v.top v.recs).unit + 1) k x)) (sym t) (sym q)
        ∙ save-is _ rs e b

-- ---- an uncut run is a run of calls

-- the run's pages, log and numbers, lent these bytes
abbrev ran_lent : (o : List ℕ) (c : Check) (w : List ℕ) (l : List Rec) (b : List ℕ) → Lent
ran_lent o c w l b = lent (state_of c l).at 24 w o (image c l) b

abbrev pub ran : (o : List ℕ) (c : Check) (w : List ℕ) (l : List Rec) → Lent
ran o c w l = ran_lent o c w l []

module _ (U : UnitLaws store asked) (o : List ℕ) (c : Check) (g : Settled store asked o o c []) where
  abbrev uncut-ran : (w : List ℕ) (l : List Rec) (b : List ℕ) → Replay.Uncut store asked o c w l → Ran o (ran_lent o c w l b)
  uncut-ran w l b u =
      record {
        top = c;
        recs = l;
        many = 0;
        settled = g;
        uncut = u;
        log = refl;
        numbered = record { used = refl; forced = none-forced l; among = omega arith };
      }
    where
      none-forced : (m : List Rec) → 24 ≡ 24 + sizes (take 0 m)
      none-forced m = nothing-forced

  -- the run with one record more
  ran-grown : (w : List ℕ) (l : List Rec) (r : Rec) (b : List ℕ) → Good (log_of c l) → Good (log_of c (l ++ (r ∷ [])))
      → grown_by (ran_lent o c w l b) c l r w ≡ ran_lent o c w (l ++ (r ∷ [])) b
  ran-grown w l r b g h = ap₂ (λ (a : ℕ) (m : List ℕ). lent a 24 w o m b) (sym (at-grown c l r)) (put-image c l r g (last_fits c l r h))

  -- a begin of the generic run is one of the four calls
  module _ (w : List ℕ) (l : List Rec) (u : Replay.Uncut store asked o c w l) (z : store.left c w l ≡ 0) (h : Uncut o c (ran o c w l)) (good : Good (log_of c l)) where
    -- a call that leaves the run with one record more goes on
    grown-run : (x : Begin) (b : List ℕ) → Good (log_of c (l ++ (LB x ∷ []))) → (y : Left) → y ≡ left 0 [] (grown_by (ran_lent o c w l b) c l (LB x) w)
        → Uncut o c y.now → Uncut o c (ran_lent o c w (l ++ (LB x ∷ [])) b)
    grown-run x b more y e k = subst (Uncut o c) (ap (λ (a : Left). a.now) e ∙ ran-grown w l (LB x) b good more) k

    wants-call : {x : Begin} {long many : ℕ} → Wants (state_of c l) w x long many → Fitting c l x long many → Good (log_of c (l ++ (LB x ∷ [])))
        → Uncut o c (ran o c w (l ++ (LB x ∷ [])))
    wants-call {x} (tidying (inl (fill, few, e))) f more =
        let q = compact-is U (ran o c w l) (uncut-ran w l [] u) z fill x few e f in
        grown-run x [] more _ q (Uncut.compact fill h (ap (λ (y : Left). y.reply) q))
    wants-call {x} (tidying (inr e)) f more =
        let q = order_is U (ran o c w l) (uncut-ran w l [] u) z x e f in
        grown-run x [] more _ q (Uncut.order h (ap (λ (y : Left). y.reply) q))
    wants-call {x} (saving {r = r} {rs = rs} (to-put long mark bytes) e) f more =
        let q = put_is U (ran_lent o c w l r) (uncut-ran w l r u) z 4 r rs e f refl refl long mark in
        Uncut.lends [] (grown-run x r more _ q (Uncut.put (Uncut.lends r h) (ap (λ (y : Left). y.reply) q)))
    wants-call {x} (saving {rs = rs} (to-delete key) e) f more =
        let q = delete-is U (ran o c w l) (uncut-ran w l [] u) z 5 (deleting key) rs e f key refl refl in
        grown-run x [] more _ q (Uncut.delete key h (ap (λ (y : Left). y.reply) q))

  -- it changes no page
  begins-pages : (w w' : List ℕ) (l : List Rec) (r : Rec) (n : ℕ) → Begins c w l r → apply n r w ≡ some w' → w ≡ w'
  begins-pages w w' l r n b e =
      some-injective w w' (sym (apply-begin n b.begun w) ∙ sym (ap (λ (y : Rec). apply n y w) b.is) ∙ e)

  good_of : (w : List ℕ) (l : List Rec) → Replay.Uncut store asked o c w l → Good (log_of c l)
  good_of w l u = (stored U (ran o c w l) (uncut-ran w l [] u)).good

  begins-call : (w w' : List ℕ) (l : List Rec) (r : Rec) (u : Replay.Uncut store asked o c w l) → store.left c w l ≡ 0 → (b : Begins c w l r)
      → w ≡ w' → Good (log_of c (l ++ (r ∷ []))) → Uncut o c (ran o c w l) → Uncut o c (ran o c w' (l ++ (r ∷ [])))
  begins-call w w' l r u z b e more h =
      subst₂ (λ (y : List ℕ) (x : Rec). Uncut o c (ran o c y (l ++ (x ∷ [])))) e (sym b.is)
      (wants-call w l u z h (good_of w l u) b.wants (b.fits, b.numbered, b.unit) (subst (λ (x : Rec). Good (log_of c (l ++ (x ∷ [])))) b.is more))

  pub run-calls : {w : List ℕ} {l : List Rec} → Replay.Uncut store asked o c w l → Uncut o c (ran o c w l)
  run-calls Replay.Uncut.start =
      subst₂ (λ (a : ℕ) (b : List ℕ). Uncut o c (lent a 24 o o b [])) (sym (bare-at c)) (sym (image-bare c)) Uncut.start
  run-calls (Replay.Uncut.begin {w = w} {w' = w'} {l = l} {r = r} u z b e) =
      begins-call w w' l r u z b (begins-pages w w' l r _ b e) (good_of w' (l ++ (r ∷ [])) (Replay.Uncut.begin u z b e)) (run-calls u)
  run-calls (Replay.Uncut.step {w = w} {w' = w'} {l = l} {r = r} {k = k} u z n e) =
      let h : Uncut o c (ran o c w l) = run-calls u in
      let q = step_is U (ran o c w l) (uncut-ran w l [] u) k r w' z n e in
      subst (Uncut o c) (ap (λ (x : Left). x.now) q) (Uncut.onward h (ap (λ (x : Left). x.reply) q))
  run-calls (Replay.Uncut.event u h) = absurd h
