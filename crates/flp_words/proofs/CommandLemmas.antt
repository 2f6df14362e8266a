-- From what `clap` promises of a parse to the command of the words.
use Rattle.std.proofs.Common.{◌≡◌, List, [], ◌∷◌, Option, None, true, refl, sym, ap₂, subst, ⊎_elim}
use Rattle.std.specs.Prelude.{◌≢◌}
use Rattle.clap.specs.Words.{App, HasMatchesOf, HasKind, Kinds, Row, Text, fault_of, is_simple, is_simple_and_free, kind_of, subcommand_of, subcommand_rows_of}
use Rattle.clap.specs.declared.error.Error.{Error}
use Rattle.clap.specs.declared.error.kind.ErrorKind.TheVariants.{OutOfMemory}
use Rattle.clap.specs.declared.parser.matches.ArgMatches.{ArgMatches}
use Rattle.clap.proofs.OnLiterals.{clap_on_literals}
use Rattle.flp_words.specs.Apps.{flp_app}
use Rattle.flp_words.specs.Command.{command_at, command_by, command_in}

-- `clap` says exactly which matches the commands have, and which faults
is-simple : is_simple flp_app ≡ true
unfolding clap_on_literals
is-simple = refl

is-free : is_simple_and_free flp_app ≡ true
unfolding clap_on_literals
is-free = refl

-- where there is a fault there is no command
command_by-fault : (faults : Kinds) (met : Option (Text × List Row)) (e : Error) → kind_of e ≢ OutOfMemory → HasKind faults e → None ≡ command_by faults met
command_by-fault [] met e not_memory has = absurd (⊎_elim not_memory (λ none. none) has)
command_by-fault (k ∷ ks) met e not_memory has = refl

-- the command of words that are taken is that of the command in the matches
pub command_in-taken : (app : App) (words : List Text) (m : ArgMatches) → app ≡ flp_app → HasMatchesOf app words m
    → (is_simple_and_free app ≡ true → fault_of app words ≡ []) → command_at (subcommand_rows_of m) ≡ command_in words
unfolding command_in
command_in-taken app words m is has none =
    let rows = subst (λ (a : App). HasMatchesOf a words m) is has is-simple in
    let free = subst (λ (a : App). is_simple_and_free a ≡ true → fault_of a words ≡ []) is none is-free in
    sym (ap₂ command_by free (sym rows.1))

-- words that are refused name no command
pub command_in-refused : (app : App) (words : List Text) (e : Error) → app ≡ flp_app → kind_of e ≢ OutOfMemory
    → (is_simple_and_free app ≡ true → HasKind (fault_of app words) e) → None ≡ command_in words
unfolding command_in
command_in-refused app words e is not_memory fails =
    let has = subst (λ (a : App). is_simple_and_free a ≡ true → HasKind (fault_of a words) e) is fails is-free in
    command_by-fault (fault_of flp_app words) (subcommand_of flp_app words) e not_memory has
