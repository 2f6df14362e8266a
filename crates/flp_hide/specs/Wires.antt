-- The wires of an honest proof at the query points, and the seeds that give wires these values. From the wires of one gadget up to the seeds that
-- another encoding needs.
use Rattle.std.specs.Prelude.{ℕ, ◌+◌, List, map, replicate, slice_index}
use Rattle.std.specs.List.{range_with_len, flat_map}
use Rattle.flp_field.specs.Word.{word_difference, word_product}
use Rattle.flp_poly.specs.Polynomial.{value_at}
use Rattle.flp_poly.specs.Weights.{weight}
use Rattle.flp_ntt.specs.PointFormula.{word_inverse}
use Rattle.flp_syntax.specs.Tree.{Program}
use Rattle.flp_meaning.specs.Circuit.{calls_of, direct}
use Rattle.flp_meaning.specs.Gadgets.{gadgets_of, arity_of, size_of}
use Rattle.flp_meaning.specs.Lengths.{lengths_of, start_of, verifier_part}
use Rattle.flp_meaning.specs.Wires.{wires_of}
use Rattle.flp_meaning.specs.Proof.{words_at, seeds_for}
use Rattle.flp_meaning.specs.Verifier.{point_of}

-- the values at its point of the wires of a gadget, of an encoding with these seeds, where the circuit makes its own calls
abbrev pub wires_at : Program → (x joint seeds query : List ℕ) → ℕ → List ℕ
wires_at body x joint seeds query gadget =
    map
    (λ wire. value_at wire (point_of body query gadget))
    (wires_of body (calls_of body (direct body x joint)) (seeds_for body seeds gadget) gadget)

-- those of all gadgets, one gadget after another: a word for each seed
abbrev pub all_wires_at : Program → (x joint seeds query : List ℕ) → List ℕ
all_wires_at body x joint seeds query = flat_map (wires_at body x joint seeds query) (gadgets_of body)

-- what a verifier has of the wires of a gadget
abbrev pub wires_of_verifier : Program → List ℕ → ℕ → List ℕ
wires_of_verifier body verifier gadget =
    words_at (1 + start_of (verifier_part body) gadget) (arity_of body gadget) verifier

-- ---- the seeds that give wires their values

-- a word over the weight at a gadget's point of the first point of its domain, where a wire has its seed
abbrev pub over_weight : Program → List ℕ → (gadget word : ℕ) → ℕ
over_weight body query gadget word =
    word_product word (word_inverse (weight (size_of body gadget) (point_of body query gadget) 0))

-- for each wire of a gadget the seed that raises its value from the one to the other
abbrev pub seeds_between : Program → List ℕ → (low high : List ℕ) → ℕ → List ℕ
seeds_between body query low high gadget =
    map
    (λ input. over_weight body query gadget (word_difference (slice_index high input) (slice_index low input)))
    (range_with_len 0 (arity_of body gadget))

-- so for all gadgets, where the lists have a word for each wire
abbrev pub all_seeds_between : Program → List ℕ → (low high : List ℕ) → List ℕ
all_seeds_between body query low high =
    flat_map
    (λ gadget. seeds_between body query (seeds_for body low gadget) (seeds_for body high gadget) gadget)
    (gadgets_of body)

-- seeds that are all 0
abbrev pub no_seeds : Program → List ℕ
no_seeds body = replicate (lengths_of body).prove 0

-- the seeds for which the wires of an encoding have these values: they raise them from those for seeds that are 0
abbrev pub seeds_giving : Program → (x joint query values : List ℕ) → List ℕ
seeds_giving body x joint query values =
    all_seeds_between body query (all_wires_at body x joint (no_seeds body) query) values

-- the seeds for which the wires of another encoding have the values that those of an encoding have with its seeds
abbrev pub reseeded : Program → (from to joint query seeds : List ℕ) → List ℕ
reseeded body from to joint query seeds =
    seeds_giving body to joint query (all_wires_at body from joint seeds query)
