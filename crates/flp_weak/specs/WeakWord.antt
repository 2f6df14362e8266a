-- The weak word of a proof: the query word that limits the proof of an encoding that fails, and how many of its values may be accepted. From the
-- gadgets up to the word.
use Rattle.std.specs.Prelude.{ℕ, ◌+◌, ◌-◌, ◌*◌, nat_eq, nat_lt, Bool, not, if◌then◌else◌, List, length, Option, None, Some}
use Rattle.std.specs.Cmp.Lexicographic.{pointwise}
use Rattle.flp_syntax.specs.Tree.{Program}
use Rattle.flp_meaning.specs.Circuit.{failing_check}
use Rattle.flp_meaning.specs.Gadgets.{first_where, degree_of, size_of, check_count}
use Rattle.flp_meaning.specs.Lengths.{check_words}
use Rattle.flp_meaning.specs.Proof.{polynomial_in, formula_in}
use Rattle.flp_weak.specs.declared.word.Weak.{Weak}

-- whether a gadget lies: the polynomial that the proof has for it is not its formula at the wires, where the proof answers the calls
abbrev pub gadget_lies : Program → (x joint proof : List ℕ) → ℕ → Bool
gadget_lies body x joint proof gadget =
    not (pointwise nat_eq (polynomial_in body proof gadget) (formula_in body x joint proof 1 gadget))

-- the least gadget that lies
abbrev pub lying_gadget : Program → (x joint proof : List ℕ) → Option ℕ
lying_gadget body x joint proof = first_where (gadget_lies body x joint proof) 0 (length body.gadgets)

-- ---- the weak word, by its number among the query words, from 0

-- the point of a gadget that lies, which is accepted at no more places than two polynomials of this degree can agree on
abbrev pub weak_point : Program → ℕ → Weak
weak_point body gadget =
    record { word = check_words body + gadget; bound = degree_of body gadget * (size_of body gadget - 1) }

-- where no gadget lies: the word that combines the failing check. A check that stands alone takes no word, and no query accepts
abbrev pub weak_check : Program → ℕ → Weak
weak_check body check =
    if nat_lt 1 (check_count body) then record { word = check; bound = 1 } else record { word = 0; bound = 0 }

-- for the check that fails and the gadget that lies
abbrev pub weak_from : Program → Option ℕ → Option ℕ → Option Weak
weak_from body None gadget = None
weak_from body (Some check) (Some gadget) = Some (weak_point body gadget)
weak_from body (Some check) None = Some (weak_check body check)

-- none for a valid encoding
abbrev pub weak_of : Program → (x joint proof : List ℕ) → Option Weak
weak_of body x joint proof = weak_from body (failing_check body x joint) (lying_gadget body x joint proof)
