-- What an open put or delete lacks, in the stages in which the code finds it; and what a plan says of it. Assumes nothing.
use Prim.Native.Nat.{ℕ, ◌+◌, ◌-◌, ◌*◌}
use native.Mathlib.Omega.{arith}
use mathlib.Core.Path.{◌≡◌, refl, sym, ◌∙◌}
use mathlib.Core.Bool.{Bool, true, false, not}
use mathlib.Core.List.{List, [], ◌∷◌, ◌++◌, map}
use lib.ListN.{length, drop, get_or, length-drop, length-map}
use lib.Dec.{eqb}
use lib.Seq.{length-take-le}
use borrow.Author.Tests.{eq-eqb, ne_eqb, not-true, not-false}
use Rattle.field.specs.Test.{pick, need}
use Rattle.field.specs.Bytes.{le4}
use Rattle.field.proofs.Test.{pick_true, pick-false, need-true, need-false}
use Rattle.page.specs.Page.{key_of}
use Rattle.page.specs.Pages.{pages, all_formed}
use Rattle.logs.specs.Record.{length_of, Begin, Image, Rec, LE, kind_of, carried, size, sizes}
use Rattle.tree.specs.Tree.{well_formed}
use Rattle.saving.specs.Save.{Sheet, Changed, cannot, sheets, put_sheets, delete_sheets}
use Rattle.saving.specs.Draft.{planned, Plans}
use Rattle.saving.specs.Rest.{image_of, sheets_of, refuses, lacks, begins, logging, imaging, saving, resumed}
use Rattle.saving.specs.declared.plan.Plan.{Plan}
use Rattle.saving.proofs.Resumes.{length-logging}
use Rattle.resuming.specs.Lacking.{readied, worked, compared, lacking, drafted, Needs}

-- ---- the pages worked out, by the tests that the code makes

module _ (w : List ℕ) (z : Bool) (ez : z ≡ all_formed 0 (pages w)) where
  pub unformed! : not z ≡ true → 3 ≡ readied w
  unfolding readied
  unformed! f = sym (need-false _ _ _ (sym ez ∙ not-true z f))

  module _ (f : not z ≡ false) (y : Bool) (ey : y ≡ well_formed (pages w)) where
    pub unwell! : not y ≡ true → 8 ≡ readied w
    unfolding readied
    unwell! g = sym (need-true _ _ _ (sym ez ∙ not-false z f) ∙ need-false _ _ _ (sym ey ∙ not-true y g))

    pub ready! : not y ≡ false → 0 ≡ readied w
    unfolding readied
    ready! g = sym (need-true _ _ _ (sym ez ∙ not-false z f) ∙ need-true _ _ _ (sym ey ∙ not-false y g))

-- what these tests leave of the others
both_hold : (a b : Bool) → ◌≡◌ {A = ℕ} (need a 3 (need b 8 0)) 0 → (a ≡ true) × (b ≡ true)
unfolding need
both_hold true true e = (refl, refl)
both_hold true false e = absurd (let y : ⊥ = omega (arith, e) in y)
both_hold false b e = absurd (let y : ⊥ = omega (arith, e) in y)

one-fails : (a b : Bool) (v : ℕ) (c : Changed) → v ≡ need a 3 (need b 8 0) → (v ≡ 0 → ⊥) → need a (cannot 3) (need b (cannot 8) c) ≡ cannot v
unfolding need
one-fails true true v c e f = absurd (f e)
one-fails true false v c e f = rw e
one-fails false b v c e f = rw e

pub readied-holds : (w : List ℕ) → readied w ≡ 0 → (all_formed 0 (pages w) ≡ true) × (well_formed (pages w) ≡ true)
unfolding readied
readied-holds w e = both_hold (all_formed 0 (pages w)) (well_formed (pages w)) e

pub worked-unready : (t : ℕ) (r w : List ℕ) (v : ℕ) → v ≡ readied w → (v ≡ 0 → ⊥) → worked t r w ≡ cannot v
unfolding worked readied
worked-unready t r w v e f = one-fails (all_formed 0 (pages w)) (well_formed (pages w)) v _ e f

module _ (t : ℕ) (r w : List ℕ) (e : readied w ≡ 0) where
  worked-is : worked t r w ≡ pick (eqb t 4) (put_sheets r (pages w)) (delete_sheets (key_of r) (pages w))
  unfolding worked
  worked-is = need-true _ _ _ (readied-holds w e).0 ∙ need-true _ _ _ (readied-holds w e).1

  pub worked-put : t ≡ 4 → worked t r w ≡ put_sheets r (pages w)
  worked-put k = worked-is ∙ pick_true _ _ _ (eq-eqb t 4 k)

  pub worked-delete : (t ≡ 4 → ⊥) → (key : ℕ) → key ≡ le4 r 2 → worked t r w ≡ delete_sheets key (pages w)
  unfolding key_of
  worked-delete f key k = worked-is ∙ pick-false _ _ _ (ne_eqb t 4 f) ∙ rw (← k)

-- ---- the stages

module _ (g : Begin) (n : ℕ) (is : List Image) where
  saving-by : (c : Changed) → saving g n is c ≡ lacking g.unit n is (compared n is c)
  unfolding saving imaging compared lacking need
  saving-by (cannot reply) = refl
  saving-by (sheets xs) = by-test (begins (n + length xs + 1) is (map (image_of (n + length xs + 1)) xs))
    where
      by-test : (t : Bool) → need t (refuses 5) (lacks (logging (drop (length is) (map (image_of (n + length xs + 1)) xs)) ++ (LE g.unit (map (image_of (n + length xs + 1)) xs) ∷ [])))
          ≡ lacking g.unit n is (need t (cannot 5) (sheets xs))
      by-test true = refl
      by-test false = refl

  by_tests : (a b : Bool) (c : Changed)
      → need a (refuses 3) (need b (refuses 8) (saving g n is c)) ≡ lacking g.unit n is (compared n is (need a (cannot 3) (need b (cannot 8) c)))
  unfolding compared lacking need
  by_tests true true c = saving-by c
  by_tests true false c = refl
  by_tests false b c = refl

  pub resumed-by : (w : List ℕ) → resumed g n is w ≡ lacking g.unit n is (compared n is (worked g.type (get_or g.saved 0 []) w))
  unfolding resumed worked sheets_of
  resumed-by w = by_tests (all_formed 0 (pages w)) (well_formed (pages w)) (sheets_of g (pages w))

-- nothing is logged yet
pub compared-none : (n : ℕ) (c : Changed) → compared n [] c ≡ c
unfolding compared begins need
compared-none n (cannot reply) = refl
compared-none n (sheets xs) = refl

module _ (n : ℕ) (is : List Image) where
  -- a refusal stays
  pub compared-cannot : (c : Changed) (reply : ℕ) → c ≡ cannot reply → compared n is c ≡ c
  unfolding compared
  compared-cannot c reply e = rw e

  module _ (xs : List Sheet) (k : ℕ) (ek : length xs ≡ k) (z : Bool) (e : z ≡ begins (n + k + 1) is (map (image_of (n + k + 1)) xs)) where
    pub compared_same : z ≡ true → compared n is (sheets xs) ≡ sheets xs
    unfolding compared
    compared_same t = rw ek (need-true _ _ _ (sym e ∙ t))

    pub compared-other : z ≡ false → compared n is (sheets xs) ≡ cannot 5
    unfolding compared
    compared-other t = rw ek (need-false _ _ _ (sym e ∙ t))

  never : (reply : ℕ) (xs : List Sheet) → cannot reply ≡ sheets xs → ◌≡◌ {A = ℕ} 0 1
  never reply xs e = cc

  same-sheets : (xs ys : List Sheet) → sheets xs ≡ sheets ys → xs ≡ ys
  same-sheets xs ys e = cc

  -- where pages are to be changed, those logged are their first
  pub compared-begins : (c : Changed) (xs : List Sheet) → compared n is c ≡ sheets xs → begins (n + length xs + 1) is (map (image_of (n + length xs + 1)) xs) ≡ true
  unfolding compared need
  compared-begins (cannot reply) xs e = absurd (let z : ◌≡◌ {A = ℕ} 0 1 = never reply xs e in let y : ⊥ = omega arith in y)
  compared-begins (sheets ys) xs e = by-test ys (begins (n + length ys + 1) is (map (image_of (n + length ys + 1)) ys)) refl e
    where
      by-test : (ys : List Sheet) (t : Bool) → begins (n + length ys + 1) is (map (image_of (n + length ys + 1)) ys) ≡ t → need t (cannot 5) (sheets ys) ≡ sheets xs
          → begins (n + length xs + 1) is (map (image_of (n + length xs + 1)) xs) ≡ true
      by-test ys true q h = let d : ys ≡ xs = same-sheets ys xs h in rw (← d) q
      by-test ys false q h = absurd (let z : ◌≡◌ {A = ℕ} 0 1 = never 5 xs h in let y : ⊥ = omega arith in y)

-- ---- a plan

module _ (w r : List ℕ) (x : Plan) (c : Changed) (p : Plans w r x c) where
  pub plan-refuses : (x.reply ≡ 0 → ⊥) → c ≡ cannot x.reply
  unfolding planned
  plan-refuses f = sym p.same ∙ pick-false _ _ _ (ne_eqb x.reply 0 f)

  pub plan-lists : x.reply ≡ 0 → c ≡ sheets (drafted (pages w) r x)
  unfolding planned drafted
  plan-lists e = sym p.same ∙ pick_true _ _ _ (eq-eqb x.reply 0 e)

  pub length-drafted : length (drafted (pages w) r x) ≡ x.count
  unfolding drafted
  length-drafted = length-take-le x.count _ p.few

-- the same, for what is the same
pub plans-of : (w r : List ℕ) (x : Plan) (c d : Changed) → Plans w r x c → c ≡ d → Plans w r x d
plans-of w r x c d p e = rw (← e) p

-- ---- how much is lacked

sizes-logging : (is : List Image) (rs : List Rec) → sizes (logging is ++ rs) ≡ 272 * length is + sizes rs
unfolding logging sizes size carried kind_of length_of
sizes-logging [] rs = omega arith
sizes-logging (i ∷ is) rs = omega (arith, sizes-logging is rs)

-- where some images of xs are logged, LGs of the others and the LE are lacked
module _ (u n : ℕ) (is : List Image) (xs : List Sheet) where
  abbrev last : ℕ
  last = n + length xs + 1

  abbrev images : List Image
  images = map (image_of last) xs

  pub lacking-sizes : sizes (logging (drop (length is) images) ++ (LE u images ∷ [])) ≡ 272 * (length xs - length is) + 16
  unfolding sizes size carried kind_of length_of
  lacking-sizes = sizes-logging (drop (length is) images) (LE u images ∷ []) ∙ rw (length-drop (length is) images, length-map xs (image_of last))

  pub lacking-count : length (logging (drop (length is) images) ++ (LE u images ∷ [])) ≡ length xs - length is + 1
  lacking-count = length-logging (drop (length is) images) (LE u images ∷ []) ∙ rw (length-drop (length is) images, length-map xs (image_of last))

-- ---- before the unit begins

-- where tests 3 or 8 refuse it
pub needs-none : (g : Begin) (n t : ℕ) (r w : List ℕ) (v : ℕ) → v ≡ readied w → (v ≡ 0 → ⊥) → g.type ≡ t → get_or g.saved 0 [] ≡ r → Needs (resumed g n [] w) v 0
unfolding lacking
needs-none g n t r w v e f et er =
    record {
      refused = λ h. resumed-by g n [] w ∙ rw (compared-none n (worked g.type (get_or g.saved 0 []) w), et, er, worked-unready t r w v e f);
      lacked = λ z. absurd (f z);
    }

module _ (g : Begin) (n t : ℕ) (r w : List ℕ) (x : Plan) (p : Plans w r x (worked t r w)) (et : g.type ≡ t) (er : get_or g.saved 0 [] ≡ r) where
  stages : resumed g n [] w ≡ lacking g.unit n [] (worked t r w)
  stages = resumed-by g n [] w ∙ rw (compared-none n (worked g.type (get_or g.saved 0 []) w), et, er)

  pub needs-of : Needs (resumed g n [] w) x.reply x.count
  unfolding lacking length_of
  needs-of =
      let xs : List Sheet = drafted (pages w) r x in
      let k : length xs ≡ x.count = length-drafted w r x _ p in
      let js : List Image = map (image_of (n + length xs + 1)) xs in
      let rs : List Rec = logging js ++ (LE g.unit js ∷ []) in
      let b : sizes rs ≡ 272 * (length xs - 0) + 16 = lacking-sizes g.unit n [] xs in
      let m : length rs ≡ length xs - 0 + 1 = lacking-count g.unit n [] xs in
      record {
        refused = λ f. stages ∙ rw (plan-refuses w r x _ p f);
        lacked = λ e. record { recs = rs; are = stages ∙ rw (plan-lists w r x _ p e); bytes = omega (arith, b, k); count = omega (arith, m, k) };
      }
