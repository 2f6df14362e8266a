-- What a plan asks of working room. From a gadget up to plans that ask the same.
use Rattle.std.specs.Prelude.{ℕ, ◌≡◌, ◌+◌, ◌*◌, ◌^◌, ◌<◌, ◌≤◌, List, length, map}
use Rattle.std.specs.List.{All, sum_by}
use Rattle.flp_syntax.specs.Tree.{Program}
use Rattle.flp_meaning.specs.Circuit.{kind_of}
use Rattle.flp_meaning.specs.Gadgets.{gadgets_of, arity_of, degree_of, calls_made, check_count, ceil_log}
use Rattle.flp_plan.specs.Counted.{counted_lengths}
use Rattle.flp_plan.specs.View.{Compiled}
use Rattle.flp_plan.specs.declared.sizes.GadgetSize.{GadgetSize}
use Rattle.flp_plan.specs.declared.sizes.Sizes.{Sizes}

abbrev pub gadget_size : Program → ℕ → GadgetSize
gadget_size body gadget =
    record { arity = arity_of body gadget; degree = degree_of body gadget; calls = calls_made body gadget }

abbrev pub sizes_of : Compiled → Sizes
sizes_of plan =
    record {
      lengths = counted_lengths plan.circuit;
      checks = check_count plan.circuit;
      publics = length plan.steps;
      gadgets = map (gadget_size plan.circuit) (gadgets_of plan.circuit);
    }

-- the calls of all gadgets
abbrev pub calls_in : List GadgetSize → ℕ
calls_in gadgets = sum_by (λ gadget. gadget.calls) gadgets

-- so many words are enough for each gadget, by what one takes
abbrev pub AreEnough : (GadgetSize → ℕ) → List GadgetSize → ℕ → Type 0
AreEnough words gadgets most = All (λ gadget. words gadget ≤ most) gadgets

-- the points of a gadget's domain
abbrev pub domain_points : GadgetSize → ℕ
domain_points gadget = 2 ^ ceil_log (gadget.calls + 1)

-- the words of all its rows: a word for each input at each of these points
abbrev pub words_of_rows : GadgetSize → ℕ
words_of_rows gadget = domain_points gadget * gadget.arity

-- two plans answer the same to whoever asks for lengths and counts
pub record AnswerAlike (one other : Compiled) : Type 0 where
  pub lengths : counted_lengths one.circuit ≡ counted_lengths other.circuit
  pub gadgets : length one.circuit.gadgets ≡ length other.circuit.gadgets
  pub checks : check_count one.circuit ≡ check_count other.circuit
  pub publics : length one.steps ≡ length other.steps
  pub kinds :
      (gadget : ℕ) → gadget < length one.circuit.gadgets → kind_of one.circuit gadget ≡ kind_of other.circuit gadget
  pub calls :
      (gadget : ℕ) → gadget < length one.circuit.gadgets → calls_made one.circuit gadget ≡ calls_made other.circuit gadget

-- then they ask the same of working room
abbrev pub AskAlike : Type 0
AskAlike = (one other : Compiled) → AnswerAlike one other → sizes_of one ≡ sizes_of other
