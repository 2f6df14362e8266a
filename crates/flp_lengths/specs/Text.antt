-- The text that `lengths` writes: a line for each length of the circuit.
use Rattle.std.specs.Prelude.{ℕ, List, ◌++◌, codes, decimal}
use Rattle.flp_syntax.specs.Tree.{Program}
use Rattle.flp_meaning.specs.Lengths.{Lengths, lengths_of}

-- a name, a space and a number
abbrev pub number_line : List ℕ → ℕ → List ℕ
number_line name number = name ++ codes " " ++ decimal number ++ codes "\n"

abbrev pub length_lines : Lengths → List ℕ
length_lines lengths =
    number_line (codes "meas") lengths.meas
    ++ number_line (codes "joint") lengths.joint
    ++ number_line (codes "prove") lengths.prove
    ++ number_line (codes "query") lengths.query
    ++ number_line (codes "proof") lengths.proof
    ++ number_line (codes "verifier") lengths.verifier
    ++ number_line (codes "outs") lengths.outs

abbrev pub lengths_text : Program → List ℕ
lengths_text circuit = length_lines (lengths_of circuit)
