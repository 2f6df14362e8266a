-- Counted soundness as laws. From one proof up to several of one record.
use Rattle.std.specs.Prelude.{ℕ, ◌≡◌, ◌+◌, ◌-◌, ◌*◌, ◌<◌, ◌≤◌, ◌↔◌, List, length, None, Some, All}
use Rattle.flp_count.specs.Count.{AtMost, PassEach, product_of}
use Rattle.flp_field.specs.Word.{AreWords}
use Rattle.flp_syntax.specs.Tree.{Program}
use Rattle.flp_meaning.specs.Circuit.{IsValid}
use Rattle.flp_meaning.specs.Gadgets.{degree_of, size_of}
use Rattle.flp_meaning.specs.Lengths.{lengths_of, check_words}
use Rattle.flp_weak.specs.AtMost.{AcceptsWith, Bounded}
use Rattle.flp_weak.specs.WeakWord.{weak_of}
use Rattle.flp_weak.specs.declared.word.Weak.{Weak}

-- ---- one proof

-- a proof: as many words as the circuit says
pub record IsProof (body : Program) (proof : List ℕ) : Type 0 where
  pub words : AreWords proof
  pub size : length proof ≡ (lengths_of body).proof

-- a valid encoding has no weak word, whatever its proof, and each other encoding has one
abbrev pub ValidHasNone : Program → Type 0
ValidHasNone body = (x joint proof : List ℕ) → (weak_of body x joint proof ≡ None) ↔ IsValid body x joint

-- of the weak word at most as many values as the bound are accepted, whatever the other query words are
abbrev pub WeakIsBounded : Program → Type 0
WeakIsBounded body =
    (x joint proof : List ℕ) (weak : Weak) → IsProof body proof → weak_of body x joint proof ≡ Some weak
    → Bounded body x joint proof weak.word weak.bound

-- the word is one of the query. For a word that combines checks the bound is 1, for the point of a gadget at most the gadget's degree times the
-- points of its domain less one
pub record IsLow (body : Program) (weak : Weak) : Type 0 where
  pub inside : weak.word < (lengths_of body).query
  pub of_check : weak.word < check_words body → weak.bound ≡ 1
  pub of_gadget :
      (gadget : ℕ) → weak.word ≡ check_words body + gadget
      → weak.bound ≤ degree_of body gadget * (size_of body gadget - 1)

abbrev pub BoundIsLow : Program → Type 0
BoundIsLow body =
    (x joint proof : List ℕ) (weak : Weak) → weak_of body x joint proof ≡ Some weak → IsLow body weak

-- ---- several proofs of one record

-- a proof with its joint words and query words, and a word of the query with a bound
pub record Challenged : Type 0 where
  pub joint : List ℕ
  pub proof : List ℕ
  pub query : List ℕ
  pub weak : Weak

-- the encoding fails under the joint words, and that is the weak word of its proof
pub record IsFalse (body : Program) (x : List ℕ) (given : Challenged) : Type 0 where
  pub proof : IsProof body given.proof
  pub query : length given.query ≡ (lengths_of body).query
  pub weak : weak_of body x given.joint given.proof ≡ Some given.weak

-- its proof is accepted with this value for its weak word
abbrev pub AcceptsChoice : Program → (x : List ℕ) → Challenged → (value : ℕ) → Type 0
AcceptsChoice body x given value = AcceptsWith body x given.joint given.proof given.query given.weak.word value

-- with all other words fixed, at most the product of the bounds are choices of one value for the weak word of each proof with
-- which each is accepted
abbrev pub FewChoices : Program → Type 0
FewChoices body =
    (x : List ℕ) (proofs : List Challenged) → All (IsFalse body x) proofs
    → AtMost (product_of (λ given. given.weak.bound) proofs) (PassEach (AcceptsChoice body x) proofs)
