-- The weights of all gadgets, one gadget after another.
use Rattle.std.proofs.Common.{ℕ, ◌≡◌, ◌+◌, ◌<◌, ◌≤◌, List, length, map, take, drop, ap, ap₂, sym, ◌∙◌, arith}
use Rattle.std.specs.List.{range_with_len, flat_map, sum_by}
use Rattle.std.proofs.lemmas.List.{take_all}
use Rattle.std.proofs.lemmas.List.FromFn.{length-map-range_with_len}
use Rattle.flp_syntax.specs.Tree.{Program}
use Rattle.flp_meaning.specs.Gadgets.{gadgets_of, size_of}
use Rattle.flp_meaning.specs.Lengths.{start_of}
use Rattle.flp_meaning.specs.Proof.{words_at}
use Rattle.flp_meaning.proofs.PartLemmas.{words-parts}
use Rattle.flp_meaning.proofs.StartLemmas.{start-inside}
use Rattle.flp_plan.specs.Sizes.{gadget_size, domain_points}
use Rattle.flp_query.specs.Room.{points_in}
use Rattle.flp_query.specs.Challenge.{weights_of, all_weights}
use Rattle.flp_plan.proofs.SizeLemmas.{sum-map}

-- as many as its domain has points
pub length-weights : (body : Program) (query : List ℕ) (gadget : ℕ) → length (weights_of body query gadget) ≡ size_of body gadget
length-weights body query gadget = length-map-range_with_len _ 0 (size_of body gadget)

-- those of one gadget lie within those of all
pub weights-fit : (body : Program) (gadget start size n : ℕ) → gadget < length body.gadgets → start ≡ start_of (size_of body) gadget → size ≡ size_of body gadget
    → n ≡ start_of (size_of body) (length body.gadgets) → start + size ≤ n
weights-fit body gadget start size n inside begins sized whole =
    let fits : start_of (size_of body) gadget + size_of body gadget ≤ sum_by (size_of body) (range_with_len 0 (length body.gadgets)) =
    start-inside (size_of body) gadget (length body.gadgets) inside in
    omega arith

-- and are the part at its start
pub weights-at : (body : Program) (query all : List ℕ) (gadget start size count : ℕ) → gadget < length body.gadgets → all ≡ all_weights body query
    → start ≡ start_of (size_of body) gadget → size ≡ size_of body gadget → count ≡ size
    → take count (drop start all) ≡ weights_of body query gadget
weights-at body query all gadget start size count inside same begins sized counted =
    let own : 0 + gadget ≡ gadget = omega arith in
    let none : start_of (size_of body) gadget + 0 ≡ start = omega arith in
    let fits : 0 + size_of body gadget ≤ size_of body (0 + gadget) = let e : size_of body (0 + gadget) ≡ size_of body gadget = ap (size_of body) own in omega arith in
    ap₂ (λ (n : ℕ) (l : List ℕ). take n (drop start l)) (counted ∙ sized) same
    ∙ ap (λ (s : ℕ). words_at s (size_of body gadget) (all_weights body query)) (sym none)
    ∙ words-parts (weights_of body query) (size_of body) 0 (length body.gadgets) gadget 0 (size_of body gadget) (λ k below. length-weights body query k) inside fits
    ∙ ap (λ (g : ℕ). take (size_of body gadget) (weights_of body query g)) own
    ∙ take_all (size_of body gadget) (weights_of body query gadget) (let long = length-weights body query gadget in omega arith)

-- all of them
pub weights-all : (body : Program) (query : List ℕ) (g start : ℕ) (out : List ℕ) → g ≡ length body.gadgets → start ≡ start_of (size_of body) g
    → length out ≡ start_of (size_of body) (length body.gadgets) → take start out ≡ flat_map (weights_of body query) (range_with_len 0 g)
    → out ≡ all_weights body query
weights-all body query g start out all begins size before =
    let whole : start_of (size_of body) g ≡ start_of (size_of body) (length body.gadgets) = ap (λ n. start_of (size_of body) n) all in
    sym (take_all start out (omega arith)) ∙ before ∙ ap (λ n. flat_map (weights_of body query) (range_with_len 0 n)) all

-- the points of all domains, as sizes have them
pub points-total : (body : Program) → points_in (map (gadget_size body) (gadgets_of body)) ≡ start_of (size_of body) (length body.gadgets)
points-total body = sum-map domain_points (gadget_size body) (gadgets_of body)
