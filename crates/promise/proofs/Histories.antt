-- Every state of a history is live or lost in the sense of Live.antt; so recovery keeps what is promised. Assumes nothing but the unit laws
-- and what is known of a finished build, which are handed in.
use Prim.Native.Nat.{ℕ, ◌+◌, ◌-◌, ◌/◌, ◌≤◌}
use native.Mathlib.Omega.{arith}
use mathlib.Core.Path.{◌≡◌, refl, sym, ap, ap₂, ◌∙◌, subst}
use mathlib.Core.Bool.{Bool, true, false}
use mathlib.Core.List.{List, [], ◌∷◌, ◌++◌}
use mathlib.Core.Option.{Option, some, none, some-injective}
use lib.ListN.{length, take, length-append, length-drop, length-map}
use lib.Seq.{take-length, take-append-le, take-take, length-take-le}
use Rattle.field.specs.Test.{pick}
use Rattle.field.specs.Bytes.{Bytes, zeroes}
use Rattle.field.proofs.Test.{pick_true, pick-false}
use Rattle.page.specs.Page.{rows_of}
use Rattle.page.specs.Pages.{pages, all_formed}
use Rattle.page.proofs.Pages.{formed-pages}
use Rattle.logs.specs.Record.{Check, Begin, saves, Image, Rec, LE, sizes}
use Rattle.logs.specs.Plan.{close, plan}
use Rattle.logs.specs.Log.{Open, State, begin_ok, images_of, read_log}
use Rattle.logs.proofs.State.{at-at_end}
use Rattle.logs.specs.Valid.{Good}
use Rattle.logs.proofs.Sound.{Awaits, Waits, waits-open, awaits-todo, sound-at_end}
use Rattle.logs.proofs.Ends.{Ends, last_forced-facts, sizes-take-less}
use Rattle.field.proofs.Part.{split}
use Rattle.tree.specs.Tree.{well_formed, all_records}
use Rattle.unit.proofs.Rooms.{Plan, plan-body}
use Rattle.saving.specs.Save.{sheets}
use Rattle.saving.specs.Rest.{image_of, Rest, refuses, lacks}
use Rattle.saving.proofs.Replies.{Comes, sheets-come}
use Rattle.saving.proofs.Resumes.{length-logging}
use Rattle.saved.proofs.Lacking.{Lacked, lacked}
use Rattle.store.specs.Calls.{Lent, lent, Left, left, three_sized, log_length, lacked_by}
use Rattle.store.specs.Calls as Calls
use Rattle.replay.specs.Store.{Formed, Reached, Recovers}
use Rattle.replay.specs.Laws.{UnitLaws}
use Rattle.replay.proofs.Theorem.{theorem, origin-settled, ran-formed}
use Rattle.promise.specs.Parts.{log_of, state_of, lacked_long, left_of, store, asked}
use Rattle.promise.specs.Promise.{Call, to_begin_compact, to_begin_order, to_begin_put, to_begin_delete, to_step, to_flush, to_force, to_checkpoint, to_find, to_list, does, since, records_since, Cut, saved_by, History, Kept}
use Rattle.promise.proofs.OnPages.{page-laws}
use Rattle.promise.proofs.Image.{read-image, take-image}
use Rattle.promise.proofs.Forward.{open_none}
use Rattle.promise.proofs.Recovering.{recovered_as, recover-saves, recover-is}
use Rattle.promise.proofs.Live.{Live, Lost, live-lost, live-bytes, lost-bytes, stored_of}
use Rattle.promise.proofs.Refused.{unsized-now}
use Rattle.promise.proofs.Called.{begin-compact-live, begin-order-live, begin-put-live, begin-delete-live, step-live, flush-live, force-live, checkpoint-live, find-live, list-live}
use Rattle.promise.proofs.Accepted.{ran, run-calls}
use Rattle.promise.proofs.Starts.{recover-lengths, woken-live}
use Rattle.promise.proofs.Rests.{find-rests}

-- ---- a unit has 25 records after its begin record at most

length-plan : (g : Begin) → begin_ok g ≡ true → length (plan g) ≤ 25
length-plan g e =
    let p : Plan g = plan-body g e in
    rw (p.is, length-append p.body (close g.unit ∷ [])) (omega (arith, p.of.few))

todo-few : {u : ℕ} (o : Open) → Awaits u o → length o.todo ≤ 25
todo-few o a = rw (awaits-todo a, length-drop (length o.did) (plan o.start)) (omega (arith, length-plan o.start a.ok))

-- a put or delete changes four pages at most
few-lacked : (g : Begin) (n : ℕ) (is : List Image) (w : List ℕ) (rs : List Rec) → Lacked g n is w rs → length rs ≤ 25
few-lacked g n is w rs k =
    let few : Comes (sheets k.changed) = subst Comes k.are (sheets-come g (pages w)) in
    let m : length k.changed ≡ length is + length k.others =
    sym (length-map k.changed (image_of (n + length k.changed + 1))) ∙ ap length k.images ∙ length-append is k.others in
    let r : length rs ≡ length k.others + 1 = ap length k.recs ∙ length-logging k.others (LE g.unit (is ++ k.others) ∷ []) in
    omega (arith, few, m, r)

rest-few : (x : Rest) → ((rs : List Rec) → x ≡ lacks rs → length rs ≤ 25) → lacked_long x ≤ 25
unfolding lacked_long
rest-few (refuses r) h = omega arith
rest-few (lacks rs) h = h rs refl

waits-few : {u : ℕ} (o : Option Open) (s : State) (w : List ℕ) → Waits u o → length w ≡ 16384 → Bytes w → left_of o s w ≤ 25
unfolding left_of lacked_by
waits-few none s w h n b = omega arith
waits-few (some o) s w h n b = by_kind (saves o.start) refl
  where
    by_kind : (t : Bool) → saves o.start ≡ t → pick (saves o.start) (lacked_long (lacked_by o s w)) (length o.todo) ≤ 25
    by_kind true v =
        rw (pick_true (saves o.start) (lacked_long (lacked_by o s w)) (length o.todo) v)
        (rest-few (lacked_by o s w) (λ rs e. few-lacked o.start _ (images_of o.did []) w rs (lacked o.start _ (images_of o.did []) w rs n b e)))
    by_kind false v = rw (pick-false (saves o.start) (lacked_long (lacked_by o s w)) (length o.todo) v) (todo-few o (waits-open h v))

few-left : (c : Check) (l : List Rec) (w : List ℕ) → Good (log_of c l) → length w ≡ 16384 → Bytes w → store.left c w l ≤ 25
few-left c l w g n b = waits-few (state_of c l).opened (state_of c l) w (sound-at_end (log_of c l) g).waits n b

module _ (U : UnitLaws store asked) where
  -- ---- calls

  does-live : {rs : List (List ℕ)} {origin : List ℕ} (k : Call) (d : Lent) → Live rs origin d → Live (records_since k rs d) (since k origin d) (does k d).now
  unfolding does since records_since
  does-live (to_begin_compact fill) d v = begin-compact-live U d v fill
  does-live to_begin_order d v = begin-order-live U d v
  does-live to_begin_put d v = begin-put-live U d v
  does-live (to_begin_delete key) d v = begin-delete-live U d v key
  does-live to_step d v = step-live U d v
  does-live (to_flush p) d v = flush-live U d v p
  does-live to_force d v = force-live U d v
  does-live (to_checkpoint clear) d v = checkpoint-live U d v clear
  does-live (to_find key) d v = find-live U d v key
  does-live (to_list low high) d v = list-live U d v low high

  -- ---- cuts

  -- a record's end that is not below another's is the end of no earlier record
  no-earlier : (m k : ℕ) (l : List Rec) → m ≤ length l → 24 + sizes (take m l) ≤ 24 + sizes (take k l) → m ≤ k
  no-earlier m k l h e = split k m (λ less. absurd (omega (arith, sizes-take-less k m l less h))) (λ a. a)

  cut-lost : (rs : List (List ℕ)) (origin : List ℕ) (d d' : Lent) (forced : ℕ) → Lost rs origin d forced → Cut forced d d' → Lost rs origin d' forced
  cut-lost rs origin d d' forced v x =
      let c : Check = v.top in
      let l : List Rec = v.recs in
      let g : Good (log_of c l) = (stored_of U v.reached).good in
      let b : x.before ≡ log_of c l =
      some-injective x.before (log_of c l) (sym x.was ∙ ap read_log v.log ∙ read-image c l g) in
      let e : Ends x.kept 24 c.number l x.number = last_forced-facts x.kept (log_of c l) x.number (rw b at x.whole) in
      let m : ℕ = e.count in
      let fewer : v.many ≤ m = no-earlier v.many m l v.among (rw (← v.held, ← e.place) x.enough) in
      record {
        records = v.records;
        work = none;
        top = c;
        recs = take m l;
        many = v.many;
        reached = subst (λ (s : List ℕ). Reached store asked origin none s c (take m l) v.many) (sym x.store)
            (Reached.cut m v.reached fewer e.among);
        log = x.log ∙ ap₂ (λ (k : ℕ) (b : List ℕ). take k b ++ zeroes (log_length - k)) e.place v.log ∙ take-image c l m g;
        held = v.held ∙ ap (λ (a : List Rec). 24 + sizes a) (sym (take-take v.many m l fewer));
        among = omega (arith, length-take-le m l e.among);
        bytes = x.bytes.bytes;
      }

  -- ---- recovery

  recovery-live : (rs : List (List ℕ)) (origin : List ℕ) (d : Lent) (forced : ℕ) → Lost rs origin d forced → three_sized d ≡ true
      → Live rs origin (Calls.recover d).now
  recovery-live rs origin d forced v sized =
      let c : Check = v.top in
      let l : List Rec = v.recs in
      let x : Recovers store asked origin d.store c l = theorem store asked page-laws U v.reached in
      let e : Calls.recover d ≡ recovered_as d c l x.work x.rest =
      recover-is U origin c (origin-settled store asked page-laws U v.reached) d l sized v.log (stored_of U v.reached).good x in
      subst (λ (y : Left). Live rs origin y.now) (sym e)
      (record {
        records = v.records;
        top = c;
        recs = l ++ x.rest;
        many = length l;
        reached = Reached.recovery v.reached x.accepted;
        log = refl;
        numbered = record {
          used = refl;
          forced = at-at_end (log_of c l) ∙ ap (λ (a : List Rec). 24 + sizes a)
              (sym (take-append-le (length l) l x.rest (omega arith) ∙ take-length l));
          among = omega (arith, length-append l x.rest);
        };
        bytes = v.bytes;
      })

  -- what is promised of it
  recovery-kept : (rs : List (List ℕ)) (origin : List ℕ) (d : Lent) (forced : ℕ) → Lost rs origin d forced → three_sized d ≡ true → Kept rs origin d
  recovery-kept rs origin d forced v sized =
      let c : Check = v.top in
      let l : List Rec = v.recs in
      let g : Good (log_of c l) = (stored_of U v.reached).good in
      let x : Recovers store asked origin d.store c l = theorem store asked page-laws U v.reached in
      let e : Calls.recover d ≡ recovered_as d c l x.work x.rest = recover-is U origin c (origin-settled store asked page-laws U v.reached) d l sized v.log g x in
      let more : Good (log_of c (l ++ x.rest)) = x.settled.shape.0 in
      let found-pages : Formed store asked x.found = ran-formed store asked page-laws U (origin-settled store asked page-laws U v.reached) x.before in
      record {
        accepted = ap (λ (y : Left). y.reply) e;
        form = ap (λ (y : Left). all_formed 0 (pages y.now.work)) e ∙ formed-pages x.work x.settled.formed.form;
        tree = ap (λ (y : Left). well_formed (pages y.now.work)) e ∙ x.settled.fine.0;
        records = ap (λ (y : Left). all_records (pages y.now.work)) e ∙ x.settled.fine.1 ∙ ap (saved_by (l ++ x.rest)) v.records
            ∙ recover-saves U origin c (origin-settled store asked page-laws U v.reached) d l x rs;
        found = log_of c l;
        was = ap read_log v.log ∙ read-image c l g;
        left = log_of c (l ++ x.rest);
        is = ap (λ (y : Left). read_log y.now.log) e ∙ read-image c (l ++ x.rest) more;
        complete = open_none (state_of c (l ++ x.rest)).opened (state_of c (l ++ x.rest)) x.work (sound-at_end (log_of c (l ++ x.rest)) more).waits
            x.settled.formed.sized.0 x.settled.formed.sized.1 x.settled.complete;
        grown = x.rest;
        surviving = refl;
        count = ap (λ (y : Left). y.values) e;
        few = omega (arith, x.appended, few-left c l x.found g found-pages.sized.0 found-pages.sized.1);
        run = ran origin c x.work (l ++ x.rest);
        uncut = run-calls U origin c (origin-settled store asked page-laws U v.reached) x.uncut;
        same-work = sym (ap (λ (y : Left). y.now.work) e);
        same_log = sym (ap (λ (y : Left). y.now.log) e);
        rests = λ key. find-rests key (Calls.recover d).now;
      }

  -- ---- every state of a history

  data Holds (rs : List (List ℕ)) (origin : List ℕ) (d : Lent) (forced : ℕ) : Bool → Type 0 where
    alive : Live rs origin d → forced ≡ d.forced → Holds rs origin d forced true
    gone : Lost rs origin d forced → Holds rs origin d forced false

  lost-of : {rs : List (List ℕ)} {origin : List ℕ} {d : Lent} {forced : ℕ} {on : Bool} → Holds rs origin d forced on → Lost rs origin d forced
  lost-of {rs} {origin} {d} (alive v e) = subst (Lost rs origin d) (sym e) (live-lost v)
  lost-of (gone v) = v

  with-bytes : {rs : List (List ℕ)} {origin : List ℕ} {d : Lent} {forced : ℕ} {on : Bool} (b : List ℕ) → Bytes b → Holds rs origin d forced on
      → Holds rs origin (lent d.used d.forced d.work d.store d.log b) forced on
  with-bytes b h (alive v e) = alive (live-bytes b h v) e
  with-bytes {d = d} b h (gone v) = gone (lost-bytes d.work b h v)

  module _ (B : (f g : ℕ) (d : Lent) → Bytes d.bytes → (Calls.build f g d).reply ≡ 0
      → Live (rows_of 16 (length d.bytes / 16) d.bytes) (Calls.build f g d).now.work (Calls.build f g d).now × (24 ≡ (Calls.build f g d).now.forced)) where
    holds : {rs : List (List ℕ)} {origin : List ℕ} {d : Lent} {forced : ℕ} {on : Bool} → History rs origin d forced on → Holds rs origin d forced on
    holds (History.built f g d b e) = let x = B f g d b e in alive x.0 x.1
    holds (History.woken d c b e r) = let x = woken-live d c b e r in alive x.0 (sym x.1)
    holds (History.called {rs = rs} {o = origin} {d = d} k h) = alive (does-live k d (live_of (holds h))) refl
      where
        live_of : {forced : ℕ} → Holds rs origin d forced true → Live rs origin d
        live_of (alive v e) = v
    holds (History.cut {rs = rs} {o = origin} {d = d} {d' = d'} {forced = forced} h x) = gone (cut-lost rs origin d d' forced (lost-of (holds h)) x)
    holds (History.recovery {rs = rs} {o = origin} {d = d} {forced = forced} h e) =
        alive (recovery-live rs origin d forced (lost-of (holds h)) (recover-lengths d e)) refl
    holds (History.unsized {rs = rs} {o = origin} {d = d} {forced = forced} {on = on} h e) =
        subst (λ (x : Lent). Holds rs origin x forced on) (sym (unsized-now d e)) (holds h)
    holds (History.mislent {d = d} e h same sized bad) =
        let v = lost-of (holds h) in
        gone (lost-bytes (Calls.recover e).now.work d.bytes v.bytes v)
    holds (History.lent_bytes b y h) = with-bytes b y (holds h)

    pub kept_in : (rs : List (List ℕ)) (o : List ℕ) (d : Lent) (forced : ℕ) (on : Bool) → History rs o d forced on → three_sized d ≡ true → Kept rs o d
    kept_in rs o d forced on h sized = recovery-kept rs o d forced (lost-of (holds h)) sized

    pub live_in : (rs : List (List ℕ)) (o : List ℕ) (d : Lent) (forced : ℕ) → History rs o d forced true → Live rs o d
    live_in rs o d forced h = only (holds h)
      where
        only : Holds rs o d forced true → Live rs o d
        only (alive v e) = v
