-- Counting different things that pass a test: none, one, and lists of a head and a tail.
use Rattle.std.proofs.Common.{ℕ, zero, suc, ◌≡◌, ◌≢◌, ◌+◌, ◌*◌, ◌≤◌, Bool, true, false, eqb, List, [], ◌∷◌, length, map, drop, get_or, refl, ap, ap₂, sym, ◌∙◌, arith}
use Rattle.std.specs.Prelude.{not, All, AllPairs}
use Rattle.std.specs.List.{filter}
use Rattle.std.proofs.lemmas.Bool.{false≢true, eqb-true, eq-eqb}
use Rattle.std.proofs.lemmas.List.{get_or-map, length-map}
use Rattle.std.proofs.lemmas.List.Elements.{All-weaker, All-map, All-filter, All-cons, All-nil, filter_passes}
use Rattle.std.proofs.lemmas.List.Filters.{length-filter_both}
use Rattle.std.proofs.lemmas.List.Kept.{AllPairs-filter, AllPairs-cons}
use Rattle.flp_count.specs.Count.{AtMost}

-- what passes a test that is harder to pass is no more
pub at_most-harder : {A : Type 0} (n : ℕ) (P Q : A → Type 0) → ((a : A) → P a → Q a) → AtMost n Q → AtMost n P
at_most-harder n P Q harder few list differ pass = few list differ (All-weaker P Q harder list pass)

-- nothing passes
pub at_most_none : {A : Type 0} (P : A → Type 0) → ((a : A) → P a → ⊥) → AtMost 0 P
at_most_none P none [] differ pass = omega arith
at_most_none P none (a ∷ more) differ pass = absurd (none a (pass 0 a (omega arith)))

-- any two that pass are the same
pub at_most_one : {A : Type 0} (P : A → Type 0) → ((a b : A) → P a → P b → a ≡ b) → AtMost 1 P
at_most_one P same [] differ pass = omega arith
at_most_one P same (a ∷ []) differ pass = omega arith
at_most_one P same (a ∷ b ∷ more) differ pass =
    absurd (differ 0 1 a (omega arith) (omega arith) (same a b (pass 0 a (omega arith)) (pass 1 a (omega arith))))

-- ---- lists of a head and a tail

-- the head passes one test and the tail another
abbrev pub HeadAndTail : (ℕ → Type 0) → (List ℕ → Type 0) → List ℕ → Type 0
HeadAndTail P Q [] = ⊥
HeadAndTail P Q (value ∷ more) = P value × Q more

abbrev has_head : ℕ → List ℕ → Bool
has_head value [] = false
has_head value (first ∷ more) = eqb first value

abbrev has_other_head : ℕ → List ℕ → Bool
has_other_head value list = not (has_head value list)

same_list : (value : ℕ) (a b : List ℕ) → has_head value a ≡ true → has_head value b ≡ true → drop 1 a ≡ drop 1 b → a ≡ b
same_list value [] b first second same = absurd (false≢true first)
same_list value (v ∷ vs) [] first second same = absurd (false≢true second)
same_list value (v ∷ vs) (w ∷ ws) first second same =
    ap₂ (λ (h : ℕ) (t : List ℕ). h ∷ t) (eqb-true v value first ∙ sym (eqb-true w value second)) same

-- the tails of different lists with one head differ
tails_differ : (value : ℕ) (lists : List (List ℕ)) → AllPairs (λ a b. a ≢ b) lists → All (λ a. has_head value a ≡ true) lists
    → AllPairs (λ a b. a ≢ b) (map (λ l. drop 1 l) lists)
tails_differ value lists differ heads i j d before inside same =
    let count : length (map (λ (l : List ℕ). drop 1 l) lists) ≡ length lists = length-map lists (λ l. drop 1 l) in
    differ i j d before (omega arith)
    (same_list value (get_or lists i d) (get_or lists j d) (heads i d (omega arith)) (heads j d (omega arith))
    (sym (get_or-map (λ (l : List ℕ). drop 1 l) lists i d d (omega arith)) ∙ same ∙ get_or-map (λ (l : List ℕ). drop 1 l) lists j d d (omega arith)))

tail_passes : (P : ℕ → Type 0) (Q : List ℕ → Type 0) (l : List ℕ) → HeadAndTail P Q l → Q (drop 1 l)
tail_passes P Q [] pass = absurd pass
tail_passes P Q (v ∷ vs) pass = pass.1

-- a head other than this value
Other : (ℕ → Type 0) → ℕ → ℕ → Type 0
Other P value head = P head × (head ≢ value)

head_is_other : (P : ℕ → Type 0) (Q : List ℕ → Type 0) (value : ℕ) (l : List ℕ) → has_other_head value l ≡ true → HeadAndTail P Q l
    → HeadAndTail (Other P value) Q l
unfolding Other
head_is_other P Q value [] other pass = absurd pass
head_is_other P Q value (v ∷ vs) other pass =
    ((pass.0, λ same. false≢true (ap not (sym (eq-eqb v value same)) ∙ other)), pass.1)

fewer_others : (P : ℕ → Type 0) (value m : ℕ) → P value → AtMost (suc m) P → AtMost m (Other P value)
unfolding Other
fewer_others P value m own heads list differ pass =
    let all : suc (length list) ≤ suc m =
    heads (value ∷ list)
    (AllPairs-cons (λ a b. a ≢ b) value list (λ k d low same. (pass k d low).1 (sym same)) differ)
    (All-cons P value list own (All-weaker (Other P value) P (λ head h. h.0) list pass)) in
    omega arith

-- at most m heads and at most n tails make at most m * n lists
pub at_most_lists : (P : ℕ → Type 0) (Q : List ℕ → Type 0) (m n : ℕ) → AtMost m P → AtMost n Q → AtMost (m * n) (HeadAndTail P Q)
at_most_lists P Q m n heads tails [] differ pass = omega arith
at_most_lists P Q m n heads tails ([] ∷ more) differ pass = absurd (pass 0 [] (omega arith))
at_most_lists P Q zero n heads tails ((value ∷ rest) ∷ more) differ pass =
    let own : P value = (pass 0 [] (omega arith)).0 in
    let none : length (value ∷ []) ≤ 0 = heads (value ∷ []) (λ i j d before inside. absurd (omega arith)) (All-cons P value [] own (All-nil P)) in
    absurd (omega arith)
at_most_lists P Q (suc m) n heads tails ((value ∷ rest) ∷ more) differ pass =
    let lists : List (List ℕ) = (value ∷ rest) ∷ more in
    let own : List (List ℕ) = filter (has_head value) lists in
    let others : List (List ℕ) = filter (has_other_head value) lists in
    let both : length own + length others ≡ length lists = length-filter_both (has_head value) (has_other_head value) (λ l. refl) lists in
    let own_pass : All (HeadAndTail P Q) own = All-filter (has_head value) (HeadAndTail P Q) lists pass in
    let count : length (map (λ (l : List ℕ). drop 1 l) own) ≡ length own = length-map own (λ l. drop 1 l) in
    let few_own : length (map (λ (l : List ℕ). drop 1 l) own) ≤ n =
    tails (map (λ (l : List ℕ). drop 1 l) own)
    (tails_differ value own (AllPairs-filter (λ a b. a ≢ b) (has_head value) lists differ) (filter_passes (has_head value) lists))
    (All-map Q (λ (l : List ℕ). drop 1 l) own (All-weaker (HeadAndTail P Q) (λ l. Q (drop 1 l)) (tail_passes P Q) own own_pass)) in
    let few_others : length others ≤ m * n =
    at_most_lists (Other P value) Q m n (fewer_others P value m (pass 0 [] (omega arith)).0 heads) tails others
    (AllPairs-filter (λ a b. a ≢ b) (has_other_head value) lists differ)
    (λ k d low.
    head_is_other P Q value (get_or others k d) (filter_passes (has_other_head value) lists k d low)
    (All-filter (has_other_head value) (HeadAndTail P Q) lists pass k d low)) in
    let product : suc m * n ≡ n + m * n = omega arith in
    omega arith
