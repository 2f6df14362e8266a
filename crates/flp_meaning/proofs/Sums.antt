-- A linear circuit under three answered readings, of which the first is the sum of the others: its checks and the inputs of its calls are sums too.
use Rattle.std.proofs.Common.{ℕ, zero, suc, ◌≡◌, ◌+◌, ◌-◌, ◌*◌, ◌%◌, Bool, true, false, ◌&&◌, ◌||◌, cond, List, [], ◌∷◌, ◌++◌, map, length, refl, ap, sym, subst, ◌∙◌, arith, eqb}
use Rattle.std.proofs.lemmas.Bool.{false≢true, or_right}
use Rattle.std.specs.Prelude.{slice_index}
use Rattle.std.specs.Option.{unwrap_or}
use Rattle.flp_field.specs.Word.{modulus, word_sum}
use Rattle.flp_field.proofs.Congruence.{Same, same_add, same_mul, same_mod}
use Rattle.flp_syntax.specs.Tree.{Tree, number, var, joint, meas, meas_or_zero, sum, call, add, mul, pow, Items, no_items, item_on, Trees, no_trees, tree_on, Argument, one, each_arg, Arguments, no_args, arg_on, Statement, check, out, each, Statements, no_stmts, stmt_on, Declaration, Program}
use Rattle.flp_syntax.specs.Sorts.{is_shared, has_shared_item, has_shared}
use Rattle.flp_syntax.specs.Scope.{Scope, inside, index_value, turns, gadget_number}
use Rattle.flp_meaning.specs.Meaning.{Call, Run, Reading, Results, map_run, then_run, in_turn, total, product, concatenation, all_results, call_run, in_units, value_with_sign, meaning, items_of, factors_of, argument_of, arguments_of, statement_of, statements_of, one_check, one_out, join_results, no_results}
use Rattle.flp_meaning.specs.Circuit.{calls_of, checks_of, with_answers}
use Rattle.flp_meaning.specs.Gadgets.{calls_to}
use Rattle.flp_meaning.specs.Wires.{inputs_at}
use Rattle.flp_syntax.specs.Linear.{TreeIsLinear, ItemsAreLinear, FactorsAreLinear, ArgumentIsLinear, ArgumentsAreLinear, StatementIsLinear, StatementsAreLinear, IsLinear}
use Rattle.flp_meaning.proofs.LinearLemmas.{behind_public}
use Rattle.flp_meaning.proofs.Public.{SameValue, in_turn_value, public_tree, public_factors}

-- ---- sums of shares

-- each word of a list is the sum of those of two others, where a word past the end is 0
abbrev pub IsSumOf : (whole left right : List ℕ) → Type 0
IsSumOf whole left right = (k : ℕ) → slice_index whole k ≡ word_sum (slice_index left k) (slice_index right k)

-- what an answered reading reads: an encoding, the unit, and the answers
pub record Share : Type 0 where
  pub x : List ℕ
  pub unit : ℕ
  pub answers : List ℕ

-- a share is the sum of two others
pub record ShareIsSum (whole left right : Share) : Type 0 where
  pub words : IsSumOf whole.x left.x right.x
  pub unit : whole.unit ≡ word_sum left.unit right.unit
  pub answers : IsSumOf whole.answers left.answers right.answers

abbrev pub reading_of : List ℕ → Share → Reading
reading_of words share = with_answers share.x words share.unit share.answers

-- ---- sums of words, of lists and of calls

-- the first number is the sum of the others, xs a word
abbrev pub Adds : ℕ → ℕ → ℕ → Type 0
Adds a b c = Same a (b + c)

pub data WordsAdd : List ℕ → List ℕ → List ℕ → Type 0 where
  no_words : WordsAdd [] [] []
  word_on : {a b c : ℕ} {xs ys zs : List ℕ} → a ≡ word_sum b c → WordsAdd xs ys zs → WordsAdd (a ∷ xs) (b ∷ ys) (c ∷ zs)

pub data CallsAdd : List Call → List Call → List Call → Type 0 where
  no_calls : CallsAdd [] [] []
  call_on :
      {a b c : Call} {xs ys zs : List Call} → a.gadget ≡ b.gadget → a.gadget ≡ c.gadget → WordsAdd a.inputs b.inputs c.inputs
      → CallsAdd xs ys zs → CallsAdd (a ∷ xs) (b ∷ ys) (c ∷ zs)

pub words-append : {xs ys zs xs' ys' zs' : List ℕ} → WordsAdd xs ys zs → WordsAdd xs' ys' zs' → WordsAdd (xs ++ xs') (ys ++ ys') (zs ++ zs')
words-append no_words h = h
words-append (word_on e more) h = word_on e (words-append more h)

calls-append : {xs ys zs xs' ys' zs' : List Call} → CallsAdd xs ys zs → CallsAdd xs' ys' zs' → CallsAdd (xs ++ xs') (ys ++ ys') (zs ++ zs')
calls-append no_calls h = h
calls-append (call_on e f i more) h = call_on e f i (calls-append more h)

same_lengths : {xs ys zs : List Call} → CallsAdd xs ys zs → (length xs ≡ length ys) × (length xs ≡ length zs)
same_lengths no_calls = (refl, refl)
same_lengths (call_on e f i more) = let h = same_lengths more in (ap (λ k. suc k) h.0, ap (λ k. suc k) h.1)

-- the first run is the sum of the others
RunsAdd : {A : Type 0} → (A → A → A → Type 0) → Run A → Run A → Run A → Type 0
RunsAdd V f g h = (n : ℕ) → V (f n).value (g n).value (h n).value × CallsAdd (f n).calls (g n).calls (h n).calls

-- ---- from parts to wholes

add_in_order : {A B C : Type 0} (U : A → A → A → Type 0) (V : B → B → B → Type 0) (W : C → C → C → Type 0) (join : A → B → C)
    → ((a b c : A) (a' b' c' : B) → U a b c → V a' b' c' → W (join a a') (join b b') (join c c'))
    → (f g h : Run A) (f' g' h' : Run B) → RunsAdd U f g h → RunsAdd V f' g' h'
    → RunsAdd W (then_run join f f') (then_run join g g') (then_run join h h')
unfolding RunsAdd
add_in_order {A} {B} {C} U V W join joins f g h f' g' h' first second n =
    let here = first n in
    let sizes = same_lengths here.1 in
    let P : ℕ → ℕ → Type 0 = λ k l.
    V (f' (n + length (f n).calls)).value (g' (n + k)).value (h' (n + l)).value
    × CallsAdd (f' (n + length (f n).calls)).calls (g' (n + k)).calls (h' (n + l)).calls in
    let there : P (length (g n).calls) (length (h n).calls) =
    subst (λ k. P k (length (h n).calls)) sizes.0 (subst (λ l. P (length (f n).calls) l) sizes.1 (second (n + length (f n).calls))) in
    (joins _ _ _ _ _ _ here.0 there.0, calls-append here.1 there.1)

data EachAdd {A : Type 0} (V : A → A → A → Type 0) : List (Run A) → List (Run A) → List (Run A) → Type 0 where
  no_runs : EachAdd V [] [] []
  run_on : {f g h : Run A} {fs gs hs : List (Run A)} → RunsAdd V f g h → EachAdd V fs gs hs → EachAdd V (f ∷ fs) (g ∷ gs) (h ∷ hs)

add_in_turn : {A B : Type 0} (U : A → A → A → Type 0) (V : B → B → B → Type 0) (join : A → B → B) (none : B)
    → ((a b c : A) (a' b' c' : B) → U a b c → V a' b' c' → V (join a a') (join b b') (join c c')) → V none none none
    → {fs gs hs : List (Run A)} → EachAdd U fs gs hs → RunsAdd V (in_turn join none fs) (in_turn join none gs) (in_turn join none hs)
unfolding RunsAdd
add_in_turn U V join none joins empty no_runs = λ n. (empty, no_calls)
add_in_turn U V join none joins empty (run_on r more) =
    add_in_order U V V join joins _ _ _ _ _ _ r (add_in_turn U V join none joins empty more)

each_turn_adds : {A : Type 0} (V : A → A → A → Type 0) (f g h : ℕ → Run A) (values : List ℕ)
    → ((turn : ℕ) → RunsAdd V (f turn) (g turn) (h turn)) → EachAdd V (map f values) (map g values) (map h values)
each_turn_adds V f g h [] all = no_runs
each_turn_adds V f g h (value ∷ values) all = run_on (all value) (each_turn_adds V f g h values all)

pub adds-sum : (a b c a' b' c' : ℕ) → Adds a b c → Adds a' b' c' → Adds (a + a') (b + b') (c + c')
adds-sum a b c a' b' c' e f =
    let moved : b + c + (b' + c') ≡ b + b' + (c + c') = omega arith in
    same_add a (b + c) a' (b' + c') e f ∙ ap (λ (k : ℕ). k % modulus) moved

pub adds-scaled : (k a b c : ℕ) → Adds a b c → Adds (k * a) (k * b) (k * c)
adds-scaled k a b c e =
    let spread : k * (b + c) ≡ k * b + k * c = omega arith in
    same_mul k k a (b + c) refl e ∙ ap (λ (x : ℕ). x % modulus) spread

adds-times : (k a b c : ℕ) → Adds a b c → Adds (a * k) (b * k) (c * k)
adds-times k a b c e =
    let spread : (b + c) * k ≡ b * k + c * k = omega arith in
    same_mul a (b + c) k k e refl ∙ ap (λ (x : ℕ). x % modulus) spread

adds-signed : (minus : Bool) (a b c : ℕ) → Adds a b c → Adds (value_with_sign minus a) (value_with_sign minus b) (value_with_sign minus c)
adds-signed true a b c e = adds-scaled (modulus - 1) a b c e
adds-signed false a b c e = e

pub adds-word : (a b c : ℕ) → a ≡ word_sum b c → Adds a b c
adds-word a b c e = ap (λ (x : ℕ). x % modulus) e ∙ same_mod (b + c)

pub word-adds : (a b c : ℕ) → Adds a b c → a % modulus ≡ word_sum (b % modulus) (c % modulus)
word-adds a b c e =
    e ∙ same_add b (b % modulus) c (c % modulus) (sym (same_mod b)) (sym (same_mod c))

-- a public value times the units
adds-units : (r s t k : ℕ) → r ≡ word_sum s t → Adds (r * k) (s * k) (t * k)
adds-units r s t k e = adds-times k r s t (adds-word r s t e)

ResultsAdd : Results → Results → Results → Type 0
ResultsAdd a b c = WordsAdd a.checks b.checks c.checks × WordsAdd a.outs b.outs c.outs

-- ---- one circuit under the three readings

module _ (words : List ℕ) (whole left right : Share) (sums : ShareIsSum whole left right) where
  -- a part that is public where it is not shared
  counted_adds : (shared : Bool) (f g h : Run ℕ) → (shared ≡ true → RunsAdd Adds f g h) → (shared ≡ false → SameValue f g × SameValue f h × SameValue g g × SameValue h h)
      → RunsAdd Adds (in_units (reading_of words whole) shared f) (in_units (reading_of words left) shared g) (in_units (reading_of words right) shared h)
  unfolding RunsAdd SameValue
  counted_adds true f g h when_shared when_public = when_shared refl
  counted_adds false f g h when_shared when_public = λ n.
      let p = when_public refl in
      let same : Adds (whole.unit * (f n).value) (left.unit * (f n).value) (right.unit * (f n).value) =
      adds-units whole.unit left.unit right.unit (f n).value sums.unit in
      let none : CallsAdd [] [] [] = no_calls in (
        subst (λ k. Adds (whole.unit * (f n).value) (left.unit * k) (right.unit * (h n).value)) (p.0 n n).0
            (subst (λ k. Adds (whole.unit * (f n).value) (left.unit * (f n).value) (right.unit * k)) (p.1 n n).0 same),
        subst (λ l. CallsAdd l (g n).calls (h n).calls) (sym (p.0 n n).1)
            (subst (λ l. CallsAdd [] l (h n).calls) (sym (p.2 n n).1) (subst (λ l. CallsAdd [] [] l) (sym (p.3 n n).1) none)),
      )

  all_public : (gadgets : List Declaration) (scope : Scope) (tree : Tree) → is_shared tree ≡ false
      → SameValue (meaning gadgets (reading_of words whole) scope tree) (meaning gadgets (reading_of words left) scope tree)
      × SameValue (meaning gadgets (reading_of words whole) scope tree) (meaning gadgets (reading_of words right) scope tree)
      × SameValue (meaning gadgets (reading_of words left) scope tree) (meaning gadgets (reading_of words left) scope tree)
      × SameValue (meaning gadgets (reading_of words right) scope tree) (meaning gadgets (reading_of words right) scope tree)
  all_public gadgets scope tree h = (
    public_tree (reading_of words whole) (reading_of words left) refl gadgets scope tree h,
    public_tree (reading_of words whole) (reading_of words right) refl gadgets scope tree h,
    public_tree (reading_of words left) (reading_of words left) refl gadgets scope tree h,
    public_tree (reading_of words right) (reading_of words right) refl gadgets scope tree h,
  )

  -- a shared part times public ones, on either side
  times_public : (f g h : Run ℕ) (f' g' h' : Run ℕ) → RunsAdd Adds f g h → SameValue f' g' → SameValue f' h' → SameValue g' g' → SameValue h' h'
      → RunsAdd Adds (then_run (λ a b. a * b) f f') (then_run (λ a b. a * b) g g') (then_run (λ a b. a * b) h h')
  unfolding RunsAdd SameValue
  times_public f g h f' g' h' r p q pp qq n =
      let here = r n in
      let nf : ℕ = n + length (f n).calls in
      let ng : ℕ = n + length (g n).calls in
      let nh : ℕ = n + length (h n).calls in
      let none : CallsAdd [] [] [] = no_calls in
      let same : Adds ((f n).value * (f' nf).value) ((g n).value * (f' nf).value) ((h n).value * (f' nf).value) =
      adds-times (f' nf).value (f n).value (g n).value (h n).value here.0 in (
        subst (λ k. Adds ((f n).value * (f' nf).value) ((g n).value * k) ((h n).value * (h' nh).value)) (p nf ng).0
            (subst (λ k. Adds ((f n).value * (f' nf).value) ((g n).value * (f' nf).value) ((h n).value * k)) (q nf nh).0 same),
        calls-append here.1
            (subst (λ l. CallsAdd l (g' ng).calls (h' nh).calls) (sym (p nf ng).1)
            (subst (λ l. CallsAdd [] l (h' nh).calls) (sym (pp ng ng).1) (subst (λ l. CallsAdd [] [] l) (sym (qq nh nh).1) none))),
      )

  public_times : (f g h : Run ℕ) (f' g' h' : Run ℕ) → RunsAdd Adds f' g' h' → SameValue f g → SameValue f h → SameValue g g → SameValue h h
      → RunsAdd Adds (then_run (λ a b. a * b) f f') (then_run (λ a b. a * b) g g') (then_run (λ a b. a * b) h h')
  unfolding RunsAdd SameValue
  public_times f g h f' g' h' r p q pp qq n =
      let P : List Call → List Call → List Call → Type 0 = λ i j k.
      Adds ((f n).value * (f' (n + length i)).value) ((g n).value * (g' (n + length j)).value) ((h n).value * (h' (n + length k)).value)
      × CallsAdd (i ++ (f' (n + length i)).calls) (j ++ (g' (n + length j)).calls) (k ++ (h' (n + length k)).calls) in
      let m : ℕ = n + 0 in
      let here = r m in
      let same : Adds ((f n).value * (f' m).value) ((f n).value * (g' m).value) ((f n).value * (h' m).value) =
      adds-scaled (f n).value (f' m).value (g' m).value (h' m).value here.0 in
      let front : Adds ((f n).value * (f' m).value) ((g n).value * (g' m).value) ((h n).value * (h' m).value) =
      subst (λ k. Adds ((f n).value * (f' m).value) (k * (g' m).value) ((h n).value * (h' m).value)) (p n n).0
      (subst (λ k. Adds ((f n).value * (f' m).value) ((f n).value * (g' m).value) (k * (h' m).value)) (q n n).0 same) in
      let base : P [] [] [] = (front, here.1) in
      subst (λ i. P i (g n).calls (h n).calls) (sym (p n n).1)
      (subst (λ j. P [] j (h n).calls) (sym (pp n n).1) (subst (λ k. P [] [] k) (sym (qq n n).1) base))

  add_after_call : (gadget : ℕ) (f g h : Run (List ℕ)) → RunsAdd WordsAdd f g h
      → RunsAdd Adds (call_run (reading_of words whole) gadget f) (call_run (reading_of words left) gadget g) (call_run (reading_of words right) gadget h)
  unfolding RunsAdd
  add_after_call gadget f g h r n =
      let here = r n in
      let sizes = same_lengths here.1 in
      let m : ℕ = n + length (f n).calls in
      let answer : slice_index whole.answers m ≡ word_sum (slice_index left.answers m) (slice_index right.answers m) = sums.answers m in
      let last : CallsAdd (record { gadget = gadget; inputs = (f n).value } ∷ []) (record { gadget = gadget; inputs = (g n).value } ∷ []) (record { gadget = gadget; inputs = (h n).value } ∷ []) =
      call_on refl refl here.0 no_calls in (
        subst (λ k. Adds (slice_index whole.answers m) (slice_index left.answers (n + k)) (slice_index right.answers (n + length (h n).calls))) sizes.0
            (subst (λ k. Adds (slice_index whole.answers m) (slice_index left.answers m) (slice_index right.answers (n + k))) sizes.1
            (adds-word _ _ _ answer)),
        calls-append here.1 last,
      )

  signed_adds : (minus : Bool) (f g h : Run ℕ) → RunsAdd Adds f g h → RunsAdd Adds (map_run (value_with_sign minus) f) (map_run (value_with_sign minus) g) (map_run (value_with_sign minus) h)
  unfolding RunsAdd
  signed_adds minus f g h r n = (adds-signed minus (f n).value (g n).value (h n).value (r n).0, (r n).1)

  input_adds : (f g h : Run ℕ) → RunsAdd Adds f g h → RunsAdd WordsAdd (map_run (λ value. value % modulus ∷ []) f) (map_run (λ value. value % modulus ∷ []) g) (map_run (λ value. value % modulus ∷ []) h)
  unfolding RunsAdd
  input_adds f g h r n = (word_on (word-adds (f n).value (g n).value (h n).value (r n).0) no_words, (r n).1)

  check_adds : (f g h : Run ℕ) → RunsAdd Adds f g h → RunsAdd ResultsAdd (map_run one_check f) (map_run one_check g) (map_run one_check h)
  unfolding RunsAdd ResultsAdd
  check_adds f g h r n = ((word_on (word-adds (f n).value (g n).value (h n).value (r n).0) no_words, no_words), (r n).1)

  out_adds : (f g h : Run ℕ) → RunsAdd Adds f g h → RunsAdd ResultsAdd (map_run one_out f) (map_run one_out g) (map_run one_out h)
  unfolding RunsAdd ResultsAdd
  out_adds f g h r n = ((no_words, word_on (word-adds (f n).value (g n).value (h n).value (r n).0) no_words), (r n).1)

  listed_adds : {fs gs hs : List (Run (List ℕ))} → EachAdd WordsAdd fs gs hs → RunsAdd WordsAdd (concatenation fs) (concatenation gs) (concatenation hs)
  listed_adds each_one = add_in_turn WordsAdd WordsAdd (λ xs ys. xs ++ ys) [] (λ a b c a' b' c' e f. words-append e f) no_words each_one

  total_adds : {fs gs hs : List (Run ℕ)} → EachAdd Adds fs gs hs → RunsAdd Adds (total fs) (total gs) (total hs)
  total_adds each_one = add_in_turn Adds Adds (λ a b. a + b) 0 adds-sum refl each_one

  performed_adds : {fs gs hs : List (Run Results)} → EachAdd ResultsAdd fs gs hs → RunsAdd ResultsAdd (all_results fs) (all_results gs) (all_results hs)
  unfolding ResultsAdd
  performed_adds each_one =
      add_in_turn ResultsAdd ResultsAdd join_results no_results
      (λ a b c a' b' c' e f. (words-append e.0 f.0, words-append e.1 f.1)) (no_words, no_words) each_one

  public_product : (gadgets : List Declaration) (scope : Scope) (factors : Trees) → has_shared factors ≡ false
      → SameValue (product (factors_of gadgets (reading_of words whole) scope factors)) (product (factors_of gadgets (reading_of words left) scope factors))
      × SameValue (product (factors_of gadgets (reading_of words whole) scope factors)) (product (factors_of gadgets (reading_of words right) scope factors))
      × SameValue (product (factors_of gadgets (reading_of words left) scope factors)) (product (factors_of gadgets (reading_of words left) scope factors))
      × SameValue (product (factors_of gadgets (reading_of words right) scope factors)) (product (factors_of gadgets (reading_of words right) scope factors))
  public_product gadgets scope factors h = (
    in_turn_value (λ a b. a * b) 1 _ _ (public_factors (reading_of words whole) (reading_of words left) refl gadgets scope factors h),
    in_turn_value (λ a b. a * b) 1 _ _ (public_factors (reading_of words whole) (reading_of words right) refl gadgets scope factors h),
    in_turn_value (λ a b. a * b) 1 _ _ (public_factors (reading_of words left) (reading_of words left) refl gadgets scope factors h),
    in_turn_value (λ a b. a * b) 1 _ _ (public_factors (reading_of words right) (reading_of words right) refl gadgets scope factors h),
  )

  one_factor : (gadgets : List Declaration) (scope : Scope) (expr : Tree) (more : Trees) (shared : Bool) → is_shared expr ≡ shared → (is_shared expr ≡ true → has_shared more ≡ false)
      → (is_shared expr ≡ true → RunsAdd Adds (meaning gadgets (reading_of words whole) scope expr) (meaning gadgets (reading_of words left) scope expr) (meaning gadgets (reading_of words right) scope expr))
      → (has_shared more ≡ true → RunsAdd Adds (product (factors_of gadgets (reading_of words whole) scope more)) (product (factors_of gadgets (reading_of words left) scope more)) (product (factors_of gadgets (reading_of words right) scope more)))
      → (is_shared expr || has_shared more) ≡ true
      → RunsAdd Adds (product (factors_of gadgets (reading_of words whole) scope (tree_on expr more))) (product (factors_of gadgets (reading_of words left) scope (tree_on expr more))) (product (factors_of gadgets (reading_of words right) scope (tree_on expr more)))
  one_factor gadgets scope expr more true is one_shared first rest h =
      let others = public_product gadgets scope more (one_shared is) in
      times_public _ _ _ _ _ _ (first is) others.0 others.1 others.2 others.3
  one_factor gadgets scope expr more false is one_shared first rest h =
      let front = all_public gadgets scope expr is in
      public_times _ _ _ _ _ _ (rest (subst (λ b. (b || has_shared more) ≡ true) is h)) front.0 front.1 front.2 front.3

  mutual
    unfolding RunsAdd

    tree_adds : (gadgets : List Declaration) (scope : Scope) (in_out : Bool) (tree : Tree) → TreeIsLinear in_out tree → is_shared tree ≡ true
        → RunsAdd Adds (meaning gadgets (reading_of words whole) scope tree) (meaning gadgets (reading_of words left) scope tree) (meaning gadgets (reading_of words right) scope tree)
    tree_adds gadgets scope in_out (number at value) linear h = absurd (false≢true h)
    tree_adds gadgets scope in_out (var at name) linear h = absurd (false≢true h)
    tree_adds gadgets scope in_out (joint at index) linear h = absurd (false≢true h)
    tree_adds gadgets scope in_out (meas at index) linear h = λ n. (adds-word _ _ _ (sums.words (index_value scope index)), no_calls)
    tree_adds gadgets scope in_out (meas_or_zero at index) linear h = λ n. (adds-word _ _ _ (sums.words (index_value scope index)), no_calls)
    tree_adds gadgets scope in_out (sum at name from to inner) linear h =
        total_adds
        (each_turn_adds Adds
        (λ turn. meaning gadgets (reading_of words whole) (inside scope name turn) inner)
        (λ turn. meaning gadgets (reading_of words left) (inside scope name turn) inner)
        (λ turn. meaning gadgets (reading_of words right) (inside scope name turn) inner)
        (turns (index_value scope from) (index_value scope to))
        (λ turn. tree_adds gadgets (inside scope name turn) in_out inner linear h))
    tree_adds gadgets scope in_out (call at name args) linear h =
        add_after_call (unwrap_or (gadget_number gadgets name) 0) _ _ _ (listed_adds (arguments_add gadgets scope in_out args linear.1))
    tree_adds gadgets scope in_out (add at items) linear h = total_adds (items_add gadgets scope in_out (in_out && has_shared_item items) (has_shared_item items) items h linear)
    tree_adds gadgets scope in_out (mul at factors) linear h = factors_add gadgets scope in_out false factors linear h
    tree_adds gadgets scope in_out (pow at base exponent) linear h = absurd (false≢true (sym linear.0 ∙ h))

    items_add : (gadgets : List Declaration) (scope : Scope) (in_out all_shared mixed : Bool) (items : Items) → mixed ≡ true → ItemsAreLinear in_out all_shared items
        → EachAdd Adds (items_of gadgets (reading_of words whole) scope mixed items) (items_of gadgets (reading_of words left) scope mixed items) (items_of gadgets (reading_of words right) scope mixed items)
    items_add gadgets scope in_out all_shared mixed no_items some linear = no_runs
    items_add gadgets scope in_out all_shared false (item_on minus expr more) some linear = absurd (false≢true some)
    items_add gadgets scope in_out all_shared true (item_on minus expr more) some linear =
        run_on
        (signed_adds minus _ _ _
        (counted_adds (is_shared expr) _ _ _ (λ h. tree_adds gadgets scope in_out expr linear.1 h) (λ h. all_public gadgets scope expr h)))
        (items_add gadgets scope in_out all_shared true more some linear.2)

    factors_add : (gadgets : List Declaration) (scope : Scope) (in_out behind : Bool) (factors : Trees) → FactorsAreLinear in_out behind factors → has_shared factors ≡ true
        → RunsAdd Adds (product (factors_of gadgets (reading_of words whole) scope factors)) (product (factors_of gadgets (reading_of words left) scope factors)) (product (factors_of gadgets (reading_of words right) scope factors))
    factors_add gadgets scope in_out behind no_trees linear h = absurd (false≢true h)
    factors_add gadgets scope in_out behind (tree_on expr more) linear h =
        one_factor gadgets scope expr more (is_shared expr) refl
        (λ e. behind_public in_out (behind || is_shared expr) more (or_right behind (is_shared expr) e) linear.2)
        (λ e. tree_adds gadgets scope in_out expr linear.1 e)
        (λ e. factors_add gadgets scope in_out (behind || is_shared expr) more linear.2 e) h

    arguments_add : (gadgets : List Declaration) (scope : Scope) (in_out : Bool) (args : Arguments) → ArgumentsAreLinear in_out args
        → EachAdd WordsAdd (arguments_of gadgets (reading_of words whole) scope args) (arguments_of gadgets (reading_of words left) scope args) (arguments_of gadgets (reading_of words right) scope args)
    arguments_add gadgets scope in_out no_args linear = no_runs
    arguments_add gadgets scope in_out (arg_on arg more) linear = run_on (argument_adds gadgets scope in_out arg linear.0) (arguments_add gadgets scope in_out more linear.1)

    argument_adds : (gadgets : List Declaration) (scope : Scope) (in_out : Bool) (arg : Argument) → ArgumentIsLinear in_out arg
        → RunsAdd WordsAdd (argument_of gadgets (reading_of words whole) scope arg) (argument_of gadgets (reading_of words left) scope arg) (argument_of gadgets (reading_of words right) scope arg)
    argument_adds gadgets scope in_out (one expr) linear =
        input_adds _ _ _
        (counted_adds (is_shared expr) _ _ _ (λ h. tree_adds gadgets scope in_out expr linear h) (λ h. all_public gadgets scope expr h))
    argument_adds gadgets scope in_out (each_arg at name from to inner) linear =
        listed_adds
        (each_turn_adds WordsAdd
        (λ turn. concatenation (arguments_of gadgets (reading_of words whole) (inside scope name turn) inner))
        (λ turn. concatenation (arguments_of gadgets (reading_of words left) (inside scope name turn) inner))
        (λ turn. concatenation (arguments_of gadgets (reading_of words right) (inside scope name turn) inner))
        (turns (index_value scope from) (index_value scope to))
        (λ turn. listed_adds (arguments_add gadgets (inside scope name turn) in_out inner linear)))

  mutual
    unfolding RunsAdd

    statement_adds : (gadgets : List Declaration) (scope : Scope) (stmt : Statement) → StatementIsLinear stmt
        → RunsAdd ResultsAdd (statement_of gadgets (reading_of words whole) scope stmt) (statement_of gadgets (reading_of words left) scope stmt) (statement_of gadgets (reading_of words right) scope stmt)
    statement_adds gadgets scope (check at expr) linear =
        check_adds _ _ _
        (counted_adds (is_shared expr) _ _ _ (λ h. tree_adds gadgets scope false expr linear h) (λ h. all_public gadgets scope expr h))
    statement_adds gadgets scope (out at expr) linear = out_adds _ _ _ (tree_adds gadgets scope true expr linear.1 linear.0)
    statement_adds gadgets scope (each at name from to inner) linear =
        performed_adds
        (each_turn_adds ResultsAdd
        (λ turn. all_results (statements_of gadgets (reading_of words whole) (inside scope name turn) inner))
        (λ turn. all_results (statements_of gadgets (reading_of words left) (inside scope name turn) inner))
        (λ turn. all_results (statements_of gadgets (reading_of words right) (inside scope name turn) inner))
        (turns (index_value scope from) (index_value scope to))
        (λ turn. performed_adds (statements_add gadgets (inside scope name turn) inner linear)))

    statements_add : (gadgets : List Declaration) (scope : Scope) (stmts : Statements) → StatementsAreLinear stmts
        → EachAdd ResultsAdd (statements_of gadgets (reading_of words whole) scope stmts) (statements_of gadgets (reading_of words left) scope stmts) (statements_of gadgets (reading_of words right) scope stmts)
    statements_add gadgets scope no_stmts linear = no_runs
    statements_add gadgets scope (stmt_on stmt more) linear = run_on (statement_adds gadgets scope stmt linear.0) (statements_add gadgets scope more linear.1)

-- ---- whole circuits

pub circuit_adds : (body : Program) (words : List ℕ) (whole left right : Share) → IsLinear body → ShareIsSum whole left right
    → WordsAdd (checks_of body (reading_of words whole)) (checks_of body (reading_of words left)) (checks_of body (reading_of words right))
    × CallsAdd (calls_of body (reading_of words whole)) (calls_of body (reading_of words left)) (calls_of body (reading_of words right))
unfolding RunsAdd ResultsAdd
circuit_adds body words whole left right linear sums =
    let all = performed_adds words whole left right sums (statements_add words whole left right sums body.gadgets [] body.stmts linear) 0 in
    (all.0.0, all.1)

first_or_more : (a b c : ℕ) (xs ys zs : List ℕ) → a ≡ word_sum b c → IsSumOf xs ys zs → (k : ℕ)
    → slice_index (a ∷ xs) k ≡ word_sum (slice_index (b ∷ ys) k) (slice_index (c ∷ zs) k)
first_or_more a b c xs ys zs e more zero = e
first_or_more a b c xs ys zs e more (suc k) = more k

pub is_sum-words : {a b c : List ℕ} → WordsAdd a b c → IsSumOf a b c
is_sum-words no_words = λ k. refl
is_sum-words (word_on e more) = λ k. first_or_more _ _ _ _ _ _ e (is_sum-words more) k

keep_or_drop : (test : Bool) {a b c : Call} {as' bs' cs' : List Call} → a.gadget ≡ b.gadget → a.gadget ≡ c.gadget → WordsAdd a.inputs b.inputs c.inputs
    → CallsAdd as' bs' cs' → CallsAdd (cond test (a ∷ as') as') (cond test (b ∷ bs') bs') (cond test (c ∷ cs') cs')
keep_or_drop true e f i more = call_on e f i more
keep_or_drop false e f i more = more

pub calls_to-adds : (gadget : ℕ) {a b c : List Call} → CallsAdd a b c → CallsAdd (calls_to gadget a) (calls_to gadget b) (calls_to gadget c)
calls_to-adds gadget no_calls = no_calls
calls_to-adds gadget (call_on {a = a} {b = b} {c = c} {xs = as'} {ys = bs'} {zs = cs'} e f i more) =
    let P : ℕ → ℕ → Type 0 = λ k l.
    CallsAdd (cond (eqb a.gadget gadget) (a ∷ calls_to gadget as') (calls_to gadget as')) (cond (eqb k gadget) (b ∷ calls_to gadget bs') (calls_to gadget bs'))
    (cond (eqb l gadget) (c ∷ calls_to gadget cs') (calls_to gadget cs')) in
    subst (λ k. P k c.gadget) e
    (subst (λ l. P a.gadget l) f (keep_or_drop (eqb a.gadget gadget) e f i (calls_to-adds gadget more)))

pub inputs_at-adds : (input : ℕ) {a b c : List Call} → CallsAdd a b c → WordsAdd (inputs_at input a) (inputs_at input b) (inputs_at input c)
inputs_at-adds input no_calls = no_words
inputs_at-adds input (call_on e f i more) = word_on (is_sum-words i input) (inputs_at-adds input more)
