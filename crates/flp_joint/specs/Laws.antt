-- What is promised of encodings that are read back, and of what joint words tell.
use Rattle.std.specs.Prelude.{ℕ, ◌≡◌, ◌+◌, ◌*◌, ◌^◌, ◌<◌, ◌≤◌, List, length, slice_set, All, Option, None, Some}
use Rattle.flp_count.specs.Count.{AtMost, PassEach}
use Rattle.flp_field.specs.Word.{IsWord, AreWords}
use Rattle.flp_syntax.specs.declared.syntax.Params.{Params}
use Rattle.flp_meaning.specs.Circuit.{IsValid}
use Rattle.flp_circuits.specs.Formulas.{word}
use Rattle.flp_circuits.specs.Sizes.{Fits, meas_len_of}
use Rattle.flp_circuits.specs.Standard.{standard_program}
use Rattle.flp_joint.specs.declared.caught.Caught.{Caught}
use Rattle.flp_joint.specs.declared.caught.Caught.TheVariants.{Never, Word}
use Rattle.flp_joint.specs.Decoding.{Encodes, IsEncoding}
use Rattle.flp_joint.specs.Caught.{chunk_of, caught_in}

-- no words are the encoding of two measurements
abbrev pub EncodingsHaveOneInput : Type 0
EncodingsHaveOneInput = (params : Params) (input other x : List ℕ) → Encodes params input x → Encodes params other x → input ≡ other

-- ---- words that no joint words let pass

pub record IsNever (params : Params) (x : List ℕ) : Type 0 where
  pub refused : IsEncoding params x → ⊥
  pub invalid : (joint : List ℕ) → IsValid (standard_program params) x joint → ⊥

-- ---- words that a joint word catches

-- some word in the chunk of a call is neither 0 nor 1
abbrev pub HasOther : (chunk : ℕ) → List ℕ → (call : ℕ) → Type 0
HasOther chunk x call = (j : ℕ) × (j < chunk) × (1 < word x (call * chunk + j))

-- and of no call before it
pub record IsLeastCall (chunk : ℕ) (x : List ℕ) (call : ℕ) : Type 0 where
  pub some : HasOther chunk x call
  pub least : (other : ℕ) → HasOther chunk x other → call ≤ other

-- as many joint words as the circuit has
abbrev pub AreJoint : Params → List ℕ → Type 0
AreJoint params joint = length joint ≡ (standard_program params).joint

-- x is valid with this value in place of the joint word of this number
pub record IsValidWith (params : Params) (x : List ℕ) (number : ℕ) (joint : List ℕ) (value : ℕ) : Type 0 where
  pub is_word : IsWord value
  pub valid : IsValid (standard_program params) x (slice_set joint number value)

-- the joint word is that of the least such call, and the bound is its chunk. Under joint words that are all 0 the words are valid.
-- Whatever the other joint words are, at most as many values as the bound let the words pass; and for several proofs, each with
-- joint words of its own, at most the bound's power lists of values do, of one value for each proof
pub record IsCaught (params : Params) (x : List ℕ) (number bound : ℕ) : Type 0 where
  pub refused : IsEncoding params x → ⊥
  pub inside : number < (standard_program params).joint
  pub chunk : chunk_of params ≡ Some bound
  pub call : IsLeastCall bound x number
  pub zeros : (joint : List ℕ) → All (λ w. w ≡ 0) joint → IsValid (standard_program params) x joint
  pub few : (joint : List ℕ) → AreJoint params joint → AtMost bound (IsValidWith params x number joint)
  pub choices :
      (joints : List (List ℕ)) → All (AreJoint params) joints
      → AtMost (bound ^ length joints) (PassEach (IsValidWith params x number) joints)

-- ---- what is told

-- what it means for words that this is told of them
abbrev pub Means : Params → (x : List ℕ) → Option Caught → Type 0
Means params x None = IsEncoding params x
Means params x (Some Never) = IsNever params x
Means params x (Some (Word number bound)) = IsCaught params x number bound

-- it holds of the words
abbrev pub CaughtMeans : Type 0
CaughtMeans = (params : Params) (x : List ℕ) → Fits params → AreWords x → length x ≡ meas_len_of params → Means params x (caught_in params x)
