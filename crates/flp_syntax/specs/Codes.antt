-- Circuits are data: each is a tree of numbers, from which it is had back. From names up to circuits. Nothing here says what a circuit means.
use Rattle.std.specs.Prelude.{ℕ, ◌≡◌, ◌==◌, Bool, true, false, if◌then◌else◌, List, [], ◌∷◌, refl}
use Rattle.std.proofs.Common.{sym, ◌∙◌, ap}
use base.Stored.{Gv, gnil, gnum, gcons, Coded}
use Rattle.flp_syntax.specs.declared.syntax.Coef.{Coef}
use Rattle.flp_syntax.specs.Tree.{Index, index_number, index_var, index_add, index_mul, IndexItems, no_index_items, index_item_on, Indices, no_indices, index_on, Tree, number, var, joint, meas, meas_or_zero, sum, call, add, mul, pow, Items, no_items, item_on, Trees, no_trees, tree_on, Argument, one, each_arg, Arguments, no_args, arg_on, Statement, check, out, each, Statements, no_stmts, stmt_on, Kind, mul_kind, poly_kind, psum_kind, Declaration, Program}

-- a node: its tag, its token, its name or number, and up to three parts
abbrev node : (tag at : ℕ) → (name first second third : Gv) → Gv
node tag at name first second third = gcons (gnum tag) (gcons (gnum at) (gcons name (gcons first (gcons second third))))

-- ---- numbers, signs and names

abbrev number_from : Gv → ℕ
number_from gnil = 0
number_from (gnum n) = n
number_from (gcons first rest) = 0

abbrev sign_code : Bool → Gv
sign_code minus = gnum (if minus then 1 else 0)

abbrev sign_from : Gv → Bool
sign_from code = number_from code == 1

sign_back : (minus : Bool) → sign_from (sign_code minus) ≡ minus
sign_back true = refl
sign_back false = refl

abbrev name_code : List ℕ → Gv
name_code [] = gnil
name_code (byte ∷ more) = gcons (gnum byte) (name_code more)

abbrev name_from : Gv → List ℕ
name_from gnil = []
name_from (gnum n) = []
name_from (gcons byte more) = number_from byte ∷ name_from more

name_back : (name : List ℕ) → name_from (name_code name) ≡ name
name_back [] = refl
name_back (byte ∷ more) = λ i. byte ∷ name_back more i

-- ---- indices

abbrev mutual
  index_code : Index → Gv
  index_code (index_number at value) = node 0 at (gnum value) gnil gnil gnil
  index_code (index_var at name) = node 1 at (name_code name) gnil gnil gnil
  index_code (index_add at items) = node 2 at gnil gnil gnil (index_items_code items)
  index_code (index_mul at factors) = node 3 at gnil gnil gnil (indices_code factors)

  index_items_code : IndexItems → Gv
  index_items_code no_index_items = gnil
  index_items_code (index_item_on minus index more) = gcons (sign_code minus) (gcons (index_code index) (index_items_code more))

  indices_code : Indices → Gv
  indices_code no_indices = gnil
  indices_code (index_on index more) = gcons (index_code index) (indices_code more)

abbrev index_by : (tag at : ℕ) → Gv → IndexItems → Indices → Index
index_by tag at name items factors =
    if tag == 0 then index_number at (number_from name)
    else (if tag == 1 then index_var at (name_from name)
    else (if tag == 2 then index_add at items
    else index_mul at factors))

abbrev mutual
  index_from : Gv → Index
  index_from (gcons (gnum tag) (gcons (gnum at) (gcons name (gcons first (gcons second third))))) =
      index_by tag at name (index_items_from third) (indices_from third)
  index_from _ = index_number 0 0

  index_items_from : Gv → IndexItems
  index_items_from (gcons minus (gcons index more)) =
      index_item_on (sign_from minus) (index_from index) (index_items_from more)
  index_items_from _ = no_index_items

  indices_from : Gv → Indices
  indices_from (gcons index more) = index_on (index_from index) (indices_from more)
  indices_from _ = no_indices

mutual
  index_back : (index : Index) → index_from (index_code index) ≡ index
  index_back (index_number at value) = refl
  index_back (index_var at name) = λ i. index_var at (name_back name i)
  index_back (index_add at items) = λ i. index_add at (index_items_back items i)
  index_back (index_mul at factors) = λ i. index_mul at (indices_back factors i)

  index_items_back : (items : IndexItems) → index_items_from (index_items_code items) ≡ items
  index_items_back no_index_items = refl
  index_items_back (index_item_on minus index more) =
      λ i. index_item_on (sign_back minus i) (index_back index i) (index_items_back more i)

  indices_back : (factors : Indices) → indices_from (indices_code factors) ≡ factors
  indices_back no_indices = refl
  indices_back (index_on index more) = λ i. index_on (index_back index i) (indices_back more i)

-- ---- expressions

abbrev mutual
  tree_code : Tree → Gv
  tree_code (number at value) = node 0 at (gnum value) gnil gnil gnil
  tree_code (var at name) = node 1 at (name_code name) gnil gnil gnil
  tree_code (joint at index) = node 2 at gnil (index_code index) gnil gnil
  tree_code (meas at index) = node 3 at gnil (index_code index) gnil gnil
  tree_code (meas_or_zero at index) = node 4 at gnil (index_code index) gnil gnil
  tree_code (sum at name from to inner) = node 5 at (name_code name) (index_code from) (index_code to) (tree_code inner)
  tree_code (call at name args) = node 6 at (name_code name) gnil gnil (arguments_code args)
  tree_code (add at items) = node 7 at gnil gnil gnil (items_code items)
  tree_code (mul at factors) = node 8 at gnil gnil gnil (trees_code factors)
  tree_code (pow at base exponent) = node 9 at gnil (index_code exponent) gnil (tree_code base)

  items_code : Items → Gv
  items_code no_items = gnil
  items_code (item_on minus expr more) = gcons (sign_code minus) (gcons (tree_code expr) (items_code more))

  trees_code : Trees → Gv
  trees_code no_trees = gnil
  trees_code (tree_on expr more) = gcons (tree_code expr) (trees_code more)

  argument_code : Argument → Gv
  argument_code (one expr) = node 0 0 gnil gnil gnil (tree_code expr)
  argument_code (each_arg at name from to inner) =
      node 1 at (name_code name) (index_code from) (index_code to) (arguments_code inner)

  arguments_code : Arguments → Gv
  arguments_code no_args = gnil
  arguments_code (arg_on arg more) = gcons (argument_code arg) (arguments_code more)

abbrev tree_by : (tag at : ℕ) → Gv → (first second : Index) → Tree → Arguments → Items → Trees → Tree
tree_by tag at name first second inner args items factors =
    if tag == 0 then number at (number_from name)
    else (if tag == 1 then var at (name_from name)
    else (if tag == 2 then joint at first
    else (if tag == 3 then meas at first
    else (if tag == 4 then meas_or_zero at first
    else (if tag == 5 then sum at (name_from name) first second inner
    else (if tag == 6 then call at (name_from name) args
    else (if tag == 7 then add at items
    else (if tag == 8 then mul at factors
    else pow at inner first))))))))

abbrev argument_by : (tag at : ℕ) → Gv → (first second : Index) → Tree → Arguments → Argument
argument_by tag at name first second expr inner =
    if tag == 0 then one expr else each_arg at (name_from name) first second inner

abbrev mutual
  tree_from : Gv → Tree
  tree_from (gcons (gnum tag) (gcons (gnum at) (gcons name (gcons first (gcons second third))))) =
      tree_by
      tag
      at
      name
      (index_from first)
      (index_from second)
      (tree_from third)
      (arguments_from third)
      (items_from third)
      (trees_from third)
  tree_from _ = number 0 0

  items_from : Gv → Items
  items_from (gcons minus (gcons expr more)) = item_on (sign_from minus) (tree_from expr) (items_from more)
  items_from _ = no_items

  trees_from : Gv → Trees
  trees_from (gcons expr more) = tree_on (tree_from expr) (trees_from more)
  trees_from _ = no_trees

  argument_from : Gv → Argument
  argument_from (gcons (gnum tag) (gcons (gnum at) (gcons name (gcons first (gcons second third))))) =
      argument_by tag at name (index_from first) (index_from second) (tree_from third) (arguments_from third)
  argument_from _ = one (number 0 0)

  arguments_from : Gv → Arguments
  arguments_from (gcons arg more) = arg_on (argument_from arg) (arguments_from more)
  arguments_from _ = no_args

mutual
  tree_back : (tree : Tree) → tree_from (tree_code tree) ≡ tree
  tree_back (number at value) = refl
  tree_back (var at name) = λ i. var at (name_back name i)
  tree_back (joint at index) = λ i. joint at (index_back index i)
  tree_back (meas at index) = λ i. meas at (index_back index i)
  tree_back (meas_or_zero at index) = λ i. meas_or_zero at (index_back index i)
  tree_back (sum at name from to inner) =
      λ i. sum at (name_back name i) (index_back from i) (index_back to i) (tree_back inner i)
  tree_back (call at name args) = λ i. call at (name_back name i) (arguments_back args i)
  tree_back (add at items) = λ i. add at (items_back items i)
  tree_back (mul at factors) = λ i. mul at (trees_back factors i)
  tree_back (pow at base exponent) = λ i. pow at (tree_back base i) (index_back exponent i)

  items_back : (items : Items) → items_from (items_code items) ≡ items
  items_back no_items = refl
  items_back (item_on minus expr more) = λ i. item_on (sign_back minus i) (tree_back expr i) (items_back more i)

  trees_back : (factors : Trees) → trees_from (trees_code factors) ≡ factors
  trees_back no_trees = refl
  trees_back (tree_on expr more) = λ i. tree_on (tree_back expr i) (trees_back more i)

  argument_back : (arg : Argument) → argument_from (argument_code arg) ≡ arg
  argument_back (one expr) = λ i. one (tree_back expr i)
  argument_back (each_arg at name from to inner) =
      λ i. each_arg at (name_back name i) (index_back from i) (index_back to i) (arguments_back inner i)

  arguments_back : (args : Arguments) → arguments_from (arguments_code args) ≡ args
  arguments_back no_args = refl
  arguments_back (arg_on arg more) = λ i. arg_on (argument_back arg i) (arguments_back more i)

-- ---- statements

abbrev mutual
  statement_code : Statement → Gv
  statement_code (check at expr) = node 0 at gnil gnil gnil (tree_code expr)
  statement_code (out at expr) = node 1 at gnil gnil gnil (tree_code expr)
  statement_code (each at name from to inner) =
      node 2 at (name_code name) (index_code from) (index_code to) (statements_code inner)

  statements_code : Statements → Gv
  statements_code no_stmts = gnil
  statements_code (stmt_on stmt more) = gcons (statement_code stmt) (statements_code more)

abbrev statement_by : (tag at : ℕ) → Gv → (first second : Index) → Tree → Statements → Statement
statement_by tag at name first second expr inner =
    if tag == 0 then check at expr else (if tag == 1 then out at expr else each at (name_from name) first second inner)

abbrev mutual
  statement_from : Gv → Statement
  statement_from (gcons (gnum tag) (gcons (gnum at) (gcons name (gcons first (gcons second third))))) =
      statement_by tag at name (index_from first) (index_from second) (tree_from third) (statements_from third)
  statement_from _ = check 0 (number 0 0)

  statements_from : Gv → Statements
  statements_from (gcons stmt more) = stmt_on (statement_from stmt) (statements_from more)
  statements_from _ = no_stmts

mutual
  statement_back : (stmt : Statement) → statement_from (statement_code stmt) ≡ stmt
  statement_back (check at expr) = λ i. check at (tree_back expr i)
  statement_back (out at expr) = λ i. out at (tree_back expr i)
  statement_back (each at name from to inner) =
      λ i. each at (name_back name i) (index_back from i) (index_back to i) (statements_back inner i)

  statements_back : (stmts : Statements) → statements_from (statements_code stmts) ≡ stmts
  statements_back no_stmts = refl
  statements_back (stmt_on stmt more) = λ i. stmt_on (statement_back stmt i) (statements_back more i)

-- ---- declarations and circuits

abbrev coefs_code : List Coef → Gv
coefs_code [] = gnil
coefs_code (coef ∷ more) = gcons (sign_code coef.minus) (gcons (gnum coef.size) (coefs_code more))

abbrev coefs_from : Gv → List Coef
coefs_from (gcons minus (gcons size more)) =
    record { minus = sign_from minus; size = number_from size } ∷ coefs_from more
coefs_from _ = []

coefs_back : (coefs : List Coef) → coefs_from (coefs_code coefs) ≡ coefs
coefs_back [] = refl
coefs_back (coef ∷ more) = λ i. record { minus = sign_back coef.minus i; size = coef.size } ∷ coefs_back more i

abbrev kind_code : Kind → Gv
kind_code mul_kind = gnil
kind_code (poly_kind coefs) = gcons gnil (coefs_code coefs)
kind_code (psum_kind count inner) = gcons (gnum count) (kind_code inner)

abbrev kind_from : Gv → Kind
kind_from gnil = mul_kind
kind_from (gnum n) = mul_kind
kind_from (gcons gnil coefs) = poly_kind (coefs_from coefs)
kind_from (gcons (gnum count) inner) = psum_kind count (kind_from inner)
kind_from (gcons (gcons first rest) inner) = mul_kind

kind_back : (kind : Kind) → kind_from (kind_code kind) ≡ kind
kind_back mul_kind = refl
kind_back (poly_kind coefs) = λ i. poly_kind (coefs_back coefs i)
kind_back (psum_kind count inner) = λ i. psum_kind count (kind_back inner i)

abbrev gadgets_code : List Declaration → Gv
gadgets_code [] = gnil
gadgets_code (decl ∷ more) = gcons (node 0 decl.at (name_code decl.name) gnil gnil (kind_code decl.kind)) (gadgets_code more)

abbrev declaration_from : Gv → Declaration
declaration_from (gcons (gnum tag) (gcons (gnum at) (gcons name (gcons first (gcons second third))))) =
    record { at = at; name = name_from name; kind = kind_from third }
declaration_from _ = record { at = 0; name = []; kind = mul_kind }

abbrev gadgets_from : Gv → List Declaration
gadgets_from gnil = []
gadgets_from (gnum n) = []
gadgets_from (gcons decl more) = declaration_from decl ∷ gadgets_from more

gadgets_back : (declared : List Declaration) → gadgets_from (gadgets_code declared) ≡ declared
gadgets_back [] = refl
gadgets_back (decl ∷ more) =
    λ i. record { at = decl.at; name = name_back decl.name i; kind = kind_back decl.kind i } ∷ gadgets_back more i

abbrev circuit_code : Program → Gv
circuit_code body =
    node 0 body.meas (gnum body.joint) (gadgets_code body.gadgets) gnil (statements_code body.stmts)

abbrev circuit_from : Gv → Program
circuit_from (gcons (gnum tag) (gcons (gnum at) (gcons name (gcons first (gcons second third))))) =
    record { meas = at; joint = number_from name; gadgets = gadgets_from first; stmts = statements_from third }
circuit_from _ = record { meas = 0; joint = 0; gadgets = []; stmts = no_stmts }

pub circuit_back : (body : Program) → circuit_from (circuit_code body) ≡ body
circuit_back body =
    λ i. record { meas = body.meas; joint = body.joint; gadgets = gadgets_back body.gadgets i; stmts = statements_back body.stmts i }

abbrev pub coded_circuit : Coded Program
coded_circuit =
    record { code = circuit_code; inj = λ one two same. sym (circuit_back one) ∙ ap circuit_from same ∙ circuit_back two }
