-- What a call's step tells its seat makes it a step of its kind.
use Rattle.std.proofs.Common.{◌-◌, ◌/◌, set, refl, ap, ◌∙◌, arith}
use lib.Seq.{set-get_or}
use Rattle.atomic_table.proofs.Lists.{set_again}
use Rattle.flp_tally.specs.Rule.{claim_word}
use Rattle.flp_tally.specs.StepKinds.{ClaimsAreSteps, PeeksAreSteps, AddsAreSteps, NotesAreSteps, LearnsAreSteps, SplitsAreSteps, JoinsAreSteps}

pub claims : ClaimsAreSteps
claims n r m id x s me w a at below is = record { id = id; view = me.0; after = w; number = x; at = at.0; weight = at.1; below = below; clear = is.clear; marked = is.marked; words = refl; views = refl }

pub peeks : PeeksAreSteps
peeks n r m id x s me w a at below is = record { id = id; view = me.0; after = w; number = x; at = at.0; weight = at.1; below = below; clear = is.clear; marked = is.marked; words = set-get_or s.words (claim_word x) 0; views = refl }

pub adds : AddsAreSteps
adds n r m id e s me w a at may is = record { id = id; view = me.0; entry = e; at = at.0; weight = at.1; may_add = may; words = refl; views = ap (set s.views id) is.after }

pub notes : NotesAreSteps
notes n r m id e s me w a at may is = record { id = id; view = me.0; entry = e; at = at.0; weight = at.1; may_add = may; nothing = is.nothing; words = set-get_or s.words 0 0; views = ap (set s.views id) is.after }

pub learns : LearnsAreSteps
learns n r m id s me w a at is = record { words = set-get_or s.words 0 0; views = ap (set s.views id) is.same ∙ set_again s.views id me.0 at.0 }

pub splits : SplitsAreSteps
splits n r m id s v at two = record { id = id; view = v; kept = v.weight - v.weight / 2; given = v.weight / 2; at = at; parts = (omega arith, omega arith, omega arith); words = refl; views = refl }

pub joins : JoinsAreSteps
joins n r m id other s v w at that apart one two = record { id = id; other = other; view = v; away = w; at = at; away_at = that; apart = apart; weight = (one, two); words = refl; views = refl }
