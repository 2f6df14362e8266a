-- The syntax trees of circuit text as plain data, from their parts up: what `Body`, `Stmt`, `Expr` and `Idx` hold, without where it lies in memory.
-- Every node has the number of the token that begins it.
use Rattle.std.specs.Prelude.{ℕ, Bool, true, false, List, [], ◌∷◌, Option, None, Some}
use Rattle.flp_syntax.specs.declared.syntax.Coef.{Coef}
use Rattle.flp_syntax.specs.declared.syntax.Params.{Params}

-- indices: bounds of loops, places in `meas` and `joint`, exponents
mutual
  pub data Index : Type 0 where
    index_number : (at value : ℕ) → Index
    index_var : (at : ℕ) (name : List ℕ) → Index
    index_add : (at : ℕ) (items : IndexItems) → Index
    index_mul : (at : ℕ) (factors : Indices) → Index

  pub data IndexItems : Type 0 where
    no_index_items : IndexItems
    index_item_on : (minus : Bool) (index : Index) (more : IndexItems) → IndexItems

  pub data Indices : Type 0 where
    no_indices : Indices
    index_on : (index : Index) (more : Indices) → Indices

-- expressions, and the arguments of calls
mutual
  pub data Tree : Type 0 where
    number : (at value : ℕ) → Tree
    var : (at : ℕ) (name : List ℕ) → Tree
    joint : (at : ℕ) (index : Index) → Tree
    meas : (at : ℕ) (index : Index) → Tree
    meas_or_zero : (at : ℕ) (index : Index) → Tree
    sum : (at : ℕ) (name : List ℕ) (from to : Index) (inner : Tree) → Tree
    call : (at : ℕ) (name : List ℕ) (args : Arguments) → Tree
    add : (at : ℕ) (items : Items) → Tree
    mul : (at : ℕ) (factors : Trees) → Tree
    pow : (at : ℕ) (base : Tree) (exponent : Index) → Tree

  pub data Items : Type 0 where
    no_items : Items
    item_on : (minus : Bool) (expr : Tree) (more : Items) → Items

  pub data Trees : Type 0 where
    no_trees : Trees
    tree_on : (expr : Tree) (more : Trees) → Trees

  pub data Argument : Type 0 where
    one : (expr : Tree) → Argument
    each_arg : (at : ℕ) (name : List ℕ) (from to : Index) (inner : Arguments) → Argument

  pub data Arguments : Type 0 where
    no_args : Arguments
    arg_on : (arg : Argument) (more : Arguments) → Arguments

-- statements
mutual
  pub data Statement : Type 0 where
    check : (at : ℕ) (expr : Tree) → Statement
    out : (at : ℕ) (expr : Tree) → Statement
    each : (at : ℕ) (name : List ℕ) (from to : Index) (inner : Statements) → Statement

  pub data Statements : Type 0 where
    no_stmts : Statements
    stmt_on : (stmt : Statement) (more : Statements) → Statements

-- what a gadget computes
pub data Kind : Type 0 where
  mul_kind : Kind
  poly_kind : (coefs : List Coef) → Kind
  psum_kind : (count : ℕ) (inner : Kind) → Kind

pub record Declaration : Type 0 where
  pub at : ℕ
  pub name : List ℕ
  pub kind : Kind

pub record Program : Type 0 where
  pub meas : ℕ
  pub joint : ℕ
  pub gadgets : List Declaration
  pub stmts : Statements

pub data Text : Type 0 where
  standard : (params : Params) → Text
  program : (body : Program) → Text

-- lists of parts as the parts of a node
abbrev pub index_items : List (Bool × Index) → IndexItems
index_items [] = no_index_items
index_items (item ∷ more) = index_item_on item.0 item.1 (index_items more)

abbrev pub indices : List Index → Indices
indices [] = no_indices
indices (index ∷ more) = index_on index (indices more)

abbrev pub items : List (Bool × Tree) → Items
items [] = no_items
items (item ∷ more) = item_on item.0 item.1 (items more)

abbrev pub trees : List Tree → Trees
trees [] = no_trees
trees (tree ∷ more) = tree_on tree (trees more)

abbrev pub arguments : List Argument → Arguments
arguments [] = no_args
arguments (arg ∷ more) = arg_on arg (arguments more)

abbrev pub statements : List Statement → Statements
statements [] = no_stmts
statements (stmt ∷ more) = stmt_on stmt (statements more)

-- where a node begins
abbrev pub index_at : Index → ℕ
index_at (index_number at value) = at
index_at (index_var at name) = at
index_at (index_add at items) = at
index_at (index_mul at factors) = at

abbrev pub tree_at : Tree → ℕ
tree_at (number at value) = at
tree_at (var at name) = at
tree_at (joint at index) = at
tree_at (meas at index) = at
tree_at (meas_or_zero at index) = at
tree_at (sum at name from to inner) = at
tree_at (call at name args) = at
tree_at (add at items) = at
tree_at (mul at factors) = at
tree_at (pow at base exponent) = at

-- a sum, a product or a power: where there is but one part, that part
abbrev pub index_sum : Index → List (Bool × Index) → Index
index_sum first [] = first
index_sum first (item ∷ more) = index_add (index_at first) (index_items ((false, first) ∷ item ∷ more))

abbrev pub index_product : Index → List Index → Index
index_product first [] = first
index_product first (factor ∷ more) = index_mul (index_at first) (indices (first ∷ factor ∷ more))

abbrev pub sum_of : Bool → Tree → List (Bool × Tree) → Tree
sum_of true first more = add (tree_at first) (items ((true, first) ∷ more))
sum_of false first [] = first
sum_of false first (item ∷ more) = add (tree_at first) (items ((false, first) ∷ item ∷ more))

abbrev pub product_of : Tree → List Tree → Tree
product_of first [] = first
product_of first (factor ∷ more) = mul (tree_at first) (trees (first ∷ factor ∷ more))

abbrev pub power_of : Tree → Option Index → Tree
power_of base None = base
power_of base (Some exponent) = pow (tree_at base) base exponent
