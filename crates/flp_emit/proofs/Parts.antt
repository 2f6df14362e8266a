-- Sums and products of runs as far as they have come.
use Rattle.std.proofs.Common.{ℕ, ◌≡◌, ◌+◌, ◌*◌, List, ◌++◌, length, get_or, refl, sym, ap, ap₂, ◌∙◌, Option, None, Some, add-zero, arith}
use Rattle.flp_meaning.specs.Meaning.{Reading, Run, plain, then_run, map_run}
use Rattle.flp_forms.specs.PublicValues.{publics}
use Rattle.flp_forms.specs.StraightLine.{StraightLine, Grows, StandsFor}
use Rattle.flp_forms.proofs.LineLemmas.{grows_refl, grows_trans, public_at-grows}
use Rattle.flp_emit.specs.Standing.{Makes, MakesValue, Remains, so_far}

-- before any part the rest is the whole
pub remains_all : (line : StraightLine) (none : ℕ) (join : ℕ → ℕ → ℕ) (whole : Reading → Run ℕ) → ((n : ℕ) → n ≡ join none n)
    → Remains line none join None whole whole
remains_all line none join whole law = record {
  within = tt;
  value = λ later g reading made. law (whole reading made).value;
  silent = λ reading made h. h;
}

-- one more part: the next run's step was made, and then a step of the parts so far with it
pub remains_more : {one two three : StraightLine} {none : ℕ} {join : ℕ → ℕ → ℕ} {part : Option ℕ} {step after : ℕ} {run rest whole : Reading → Run ℕ}
    → ((a b c : ℕ) → join a (join b c) ≡ join (join a b) c)
    → Remains one none join part (λ reading. then_run join (run reading) (rest reading)) whole
    → Makes one two step run
    → MakesValue two three after (λ values. join (so_far none part values) (get_or values step 0))
    → Remains three none join (Some after) rest whole
remains_more {one} {two} {three} {none} {join} {part} {step} {after} {run} {rest} {whole} law left made joined = record {
  within = joined.within;
  value =
      λ later g reading n.
      let back = grows_trans two three later joined.grows g in
      left.value later (grows_trans one two later made.grows back) reading n
      ∙ ap (λ (k : ℕ). join (so_far none part (publics later.steps reading.joint)) (join (run reading n).value (rest reading k).value))
      (ap (λ calls. n + length calls) (made.stands.silent reading n) ∙ add-zero n)
      ∙ law _ _ _
      ∙ ap (λ (k : ℕ). join (join (so_far none part (publics later.steps reading.joint)) k) (rest reading n).value)
      (sym (made.stands.value later back reading n))
      ∙ ap (λ (k : ℕ). join k (rest reading n).value) (sym (joined.value later g reading.joint));
  silent =
      λ reading n h.
      left.silent reading n
      (ap₂ (λ a b. a ++ b) (made.stands.silent reading n)
      (ap (λ (k : ℕ). (rest reading k).calls) (ap (λ calls. n + length calls) (made.stands.silent reading n) ∙ add-zero n) ∙ h));
}

-- no part is left: the step of all parts stands for the whole
pub remains_none : {old line new : StraightLine} {none : ℕ} {join : ℕ → ℕ → ℕ} {part : Option ℕ} {step : ℕ} {whole : Reading → Run ℕ}
    → ((n : ℕ) → join n none ≡ n) → Grows old line → Remains line none join part (λ reading. plain none) whole
    → MakesValue line new step (λ values. so_far none part values) → Makes old new step whole
remains_none {old} {line} {new} {none} {join} {part} {step} {whole} law grown left settled = record {
  grows = grows_trans old line new grown settled.grows;
  stands = record {
    within = settled.within;
    value =
        λ later g reading n.
        settled.value later g reading.joint
        ∙ sym (law _)
        ∙ sym (left.value later (grows_trans line new later settled.grows g) reading n);
    silent = λ reading n. left.silent reading n refl;
  };
}

-- a value that takes no call
pub makes_plain : {old new : StraightLine} {step : ℕ} (number : List ℕ → ℕ) → MakesValue old new step (λ values. number values)
    → (value : Reading → ℕ) → ((later : StraightLine) → Grows new later → (reading : Reading) → number (publics later.steps reading.joint) ≡ value reading)
    → Makes old new step (λ reading. plain (value reading))
makes_plain number made value same = record {
  grows = made.grows;
  stands = record {
    within = made.within;
    value = λ later g reading n. made.value later g reading.joint ∙ same later g reading;
    silent = λ reading n. refl;
  };
}

-- a step of a run, and then one of a change of its value
pub makes_changed : {old mid new : StraightLine} {one step : ℕ} {run : Reading → Run ℕ} (change : ℕ → ℕ)
    → Makes old mid one run → MakesValue mid new step (λ values. change (get_or values one 0))
    → Makes old new step (λ reading. map_run change (run reading))
makes_changed {old} {mid} {new} {one} {step} {run} change made value = record {
  grows = grows_trans old mid new made.grows value.grows;
  stands = record {
    within = value.within;
    value =
        λ later g reading n.
        value.value later g reading.joint
        ∙ ap change (made.stands.value later (grows_trans mid new later value.grows g) reading n);
    silent = λ reading n. made.stands.silent reading n;
  };
}

-- a step that stands for a number of the joint words
pub makes_stands : (line : StraightLine) (step : ℕ) (number : List ℕ → ℕ) → StandsFor line step number
    → Makes line line step (λ reading. plain (number reading.joint))
makes_stands line step number s = record {
  grows = grows_refl line;
  stands = record {
    within = s.within;
    value = λ later g reading n. public_at-grows line later step reading.joint g s.within ∙ s.value reading.joint;
    silent = λ reading n. refl;
  };
}

pub then_grows : {one two three : StraightLine} → Grows one two → Grows two three → Grows one three
then_grows {one} {two} {three} g h = grows_trans one two three g h

pub sums_regroup : (a b c : ℕ) → a + (b + c) ≡ (a + b) + c
sums_regroup a b c = omega arith

pub products_regroup : (a b c : ℕ) → a * (b * c) ≡ (a * b) * c
products_regroup a b c = omega arith
