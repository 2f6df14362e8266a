use Rattle.std.proofs.Common.{ℕ, ◌≡◌, ◌∙◌, ◌*◌, ◌%◌, ◌<◌, length, take, sym, subst, ap, arith, rules}
use Rattle.std.proofs.lemmas.List.{get_or_read, length-take-le}
use Rattle.std.proofs.lemmas.Nat.{pow_pos}
use Rattle.flp_field.specs.Word.{modulus}
use Rattle.flp_poly.specs.Weights.{weight}
use Rattle.flp_meaning.specs.Gadgets.{log_of, size_of}
use Rattle.flp_meaning.specs.Verifier.{point_of}
use Rattle.flp_hide.proofs.WeightLemmas.{weight-read, weight-some, weight-word}
use Rattle.flp_hide.proofs.WireLemmas.{inverse-is}
use Rattle.flp_hide.proofs.seeds.inverse_weight.Goals as goal

pub inv-inverse-requires : goal.inv-inverse-requires
inv-inverse-requires c =
    let body = c.args.plan.now.circuit in
    let size : ℕ = c.domain_size.result in
    let some : 0 < size_of body c.args.gadget = pow_pos (log_of body c.args.gadget) in
    let cut : length (take size c.args.room.now) ≡ size = length-take-le size c.args.room.now (omega (arith, c.domain_size.ensures.few, c.requires.room)) in
    let long : length c.weights.new.out ≡ size = c.weights.auto.out ∙ cut in
    let is : c.index-all-0.result ≡ weight (size_of body c.args.gadget) (point_of body c.args.words.now c.args.gadget) 0 =
    weight-read c.weights.new.out (length (take size c.args.room.now)) (size_of body c.args.gadget) c.point.result (point_of body c.args.words.now c.args.gadget)
    c.index-all-0.result c.weights.ensures.weights (cut ∙ c.domain_size.ensures.points) c.point.ensures some
    (get_or_read c.weights.new.out 0 c.index-all-0.result (omega (arith, long, some, c.domain_size.ensures.points)) c.index-all-0.is 0) in
    subst (λ (w : ℕ). 0 < w) (sym is) (weight-some body c.args.words.now c.args.gadget c.is_bounded.ensures c.requires.gadget c.requires.outside)

pub returns : goal.returns
returns c =
    let body = c.args.plan.now.circuit in
    let size : ℕ = c.domain_size.result in
    let own : ℕ = weight (size_of body c.args.gadget) (point_of body c.args.words.now c.args.gadget) 0 in
    let some : 0 < size_of body c.args.gadget = pow_pos (log_of body c.args.gadget) in
    let cut : length (take size c.args.room.now) ≡ size = length-take-le size c.args.room.now (omega (arith, c.domain_size.ensures.few, c.requires.room)) in
    let long : length c.weights.new.out ≡ size = c.weights.auto.out ∙ cut in
    let is : c.index-all-0.result ≡ own =
    weight-read c.weights.new.out (length (take size c.args.room.now)) (size_of body c.args.gadget) c.point.result (point_of body c.args.words.now c.args.gadget)
    c.index-all-0.result c.weights.ensures.weights (cut ∙ c.domain_size.ensures.points) c.point.ensures some
    (get_or_read c.weights.new.out 0 c.index-all-0.result (omega (arith, long, some, c.domain_size.ensures.points)) c.index-all-0.is 0) in
    let word : c.inv-inverse.result < modulus = search rules in
    inverse-is own c.inv-inverse.result (weight-some body c.args.words.now c.args.gadget c.is_bounded.ensures c.requires.gadget c.requires.outside)
    (weight-word (size_of body c.args.gadget) (point_of body c.args.words.now c.args.gadget) 0) word
    (ap (λ (w : ℕ). (c.inv-inverse.result * w) % modulus) (sym is) ∙ c.inv-inverse.ensures.product)
