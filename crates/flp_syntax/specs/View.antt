-- The syntax types of the program as plain data: what each of them holds.
use Rattle.std.specs.Prelude.{ℕ, Bool, List, map, ◌≡◌}
use Rattle.std.proofs.Common.{sym, ◌∙◌, ap}
use Rattle.std.specs.Borrow.{Bor}
use Rattle.std.specs.declared.boxed.Box.{Box}
use Rattle.std.specs.declared.alloc.Global.{Global}
use Rattle.flp_syntax.specs.Tree.{Index, index_number, index_var, index_add, index_mul, index_items, indices, Tree, number, var, joint, meas, meas_or_zero, sum, call, add, mul, pow, items, trees, Argument, one, each_arg, arguments, Statement, check, out, each, statements, Kind, mul_kind, poly_kind, psum_kind, Declaration, Program, Text, standard, program}
use Rattle.flp_syntax.specs.Scope.{Scope, Names}
use Rattle.flp_syntax.specs.declared.scope.Bound.{Bound}
use Rattle.flp_syntax.specs.declared.syntax.Coef.{Coef}
use Rattle.flp_syntax.specs.declared.syntax.Idx.{Idx, fold-Idx, fold-roll-Idx}
use Rattle.flp_syntax.specs.declared.syntax.Idx.TheOpen as idx_open
use Rattle.flp_syntax.specs.declared.syntax.Idx.TheOpen.{Idx-F, IdxItem-F}
use Rattle.flp_syntax.specs.declared.syntax.Idx.TheVariants as idx
use Rattle.flp_syntax.specs.declared.syntax.IdxItem.{IdxItem, fold-IdxItem, fold-roll-IdxItem, roll-IdxItem}
use Rattle.flp_syntax.specs.declared.syntax.Arg.{Arg, fold-Arg, fold-roll-Arg}
use Rattle.flp_syntax.specs.declared.syntax.Arg.TheOpen as expr_open
use Rattle.flp_syntax.specs.declared.syntax.Arg.TheOpen.{Arg-F, Expr-F, Item-F}
use Rattle.flp_syntax.specs.declared.syntax.Arg.TheVariants as arg
use Rattle.flp_syntax.specs.declared.syntax.Expr.{Expr, fold-Expr, fold-roll-Expr}
use Rattle.flp_syntax.specs.declared.syntax.Expr.TheVariants as expr
use Rattle.flp_syntax.specs.declared.syntax.Item.{Item, fold-Item, fold-roll-Item, roll-Item}
use Rattle.flp_syntax.specs.declared.syntax.Stmt.{Stmt, fold-Stmt, fold-roll-Stmt}
use Rattle.flp_syntax.specs.declared.syntax.Stmt.TheOpen as stmt_open
use Rattle.flp_syntax.specs.declared.syntax.Stmt.TheOpen.{Stmt-F}
use Rattle.flp_syntax.specs.declared.syntax.Stmt.TheVariants as stmt
use Rattle.flp_syntax.specs.declared.syntax.KindText.{KindText, fold-KindText, fold-roll-KindText}
use Rattle.flp_syntax.specs.declared.syntax.KindText.TheOpen as kind_open
use Rattle.flp_syntax.specs.declared.syntax.KindText.TheOpen.{KindText-F}
use Rattle.flp_syntax.specs.declared.syntax.KindText.TheVariants as kind
use Rattle.flp_syntax.specs.declared.syntax.Decl.{Decl}
use Rattle.flp_syntax.specs.declared.syntax.Body.{Body}
use Rattle.flp_syntax.specs.declared.syntax.Circuit.{Circuit}
use Rattle.flp_syntax.specs.declared.syntax.Circuit.TheVariants as circuit

-- one level of an index
abbrev pub idx_step : Idx-F Index (Bool × Index) → Index
idx_step (idx_open.Number at value) = index_number at value
idx_step (idx_open.Var at name) = index_var at name
idx_step (idx_open.Add at items) = index_add at (index_items items)
idx_step (idx_open.Mul at factors) = index_mul at (indices factors)

abbrev pub idx_item_step : IdxItem-F Index (Bool × Index) → Bool × Index
idx_item_step item = (item.minus, item.idx)

-- an index, and an item of one
pub index_of : Idx → Index
index_of = fold-Idx Index (Bool × Index) idx_step idx_item_step

pub index_item_of : IdxItem → Bool × Index
index_item_of = fold-IdxItem Index (Bool × Index) idx_step idx_item_step

pub index_of_Number : (at value : ℕ) → index_of (idx.Number at value) ≡ index_number at value
unfolding index_of index_item_of
index_of_Number at value = ap index_of (sym (idx.rolls-Number at value)) ∙ fold-roll-Idx Index (Bool × Index) idx_step idx_item_step (idx_open.Number at value)

pub index_of_Var : (at : ℕ) (name : List ℕ) → index_of (idx.Var at name) ≡ index_var at name
unfolding index_of index_item_of
index_of_Var at name = ap index_of (sym (idx.rolls-Var at name)) ∙ fold-roll-Idx Index (Bool × Index) idx_step idx_item_step (idx_open.Var at name)

pub index_of_Add : (at : ℕ) (xs : List IdxItem) → index_of (idx.Add at xs) ≡ index_add at (index_items (map index_item_of xs))
unfolding index_of index_item_of
index_of_Add at xs = ap index_of (sym (idx.rolls-Add at xs)) ∙ fold-roll-Idx Index (Bool × Index) idx_step idx_item_step (idx_open.Add at xs)

pub index_of_Mul : (at : ℕ) (xs : List Idx) → index_of (idx.Mul at xs) ≡ index_mul at (indices (map index_of xs))
unfolding index_of index_item_of
index_of_Mul at xs = ap index_of (sym (idx.rolls-Mul at xs)) ∙ fold-roll-Idx Index (Bool × Index) idx_step idx_item_step (idx_open.Mul at xs)

pub index_item_of_roll : (minus : Bool) (v : Idx) → index_item_of (roll-IdxItem (record { minus = minus; idx = v })) ≡ (minus, index_of v)
unfolding index_of index_item_of
index_item_of_roll minus v = fold-roll-IdxItem Index (Bool × Index) idx_step idx_item_step (record { minus = minus; idx = v })

-- one level of an expression
abbrev pub arg_step : Arg-F Argument Tree (Bool × Tree) → Argument
arg_step (expr_open.One v) = one v
arg_step (expr_open.Each at name from to inner) = each_arg at name (index_of from) (index_of to) (arguments inner)

abbrev pub expr_step : Expr-F Argument Tree (Bool × Tree) → Tree
expr_step (expr_open.Number at value) = number at value
expr_step (expr_open.Var at name) = var at name
expr_step (expr_open.Joint at index) = joint at (index_of index)
expr_step (expr_open.Meas at index) = meas at (index_of index)
expr_step (expr_open.MeasOrZero at index) = meas_or_zero at (index_of index)
expr_step (expr_open.Sum at name from to inner) = sum at name (index_of from) (index_of to) inner.value
expr_step (expr_open.Call at name args) = call at name (arguments args)
expr_step (expr_open.Add at xs) = add at (items xs)
expr_step (expr_open.Mul at xs) = mul at (trees xs)
expr_step (expr_open.Pow at base exponent) = pow at base.value (index_of exponent)

abbrev pub item_step : Item-F Argument Tree (Bool × Tree) → Bool × Tree
item_step item = (item.minus, item.expr)

-- an argument, an expression, and an item of one
pub arg_of : Arg → Argument
arg_of = fold-Arg Argument Tree (Bool × Tree) arg_step expr_step item_step

pub tree_of : Expr → Tree
tree_of = fold-Expr Argument Tree (Bool × Tree) arg_step expr_step item_step

pub item_of : Item → Bool × Tree
item_of = fold-Item Argument Tree (Bool × Tree) arg_step expr_step item_step

pub arg_of_One : (v : Expr) → arg_of (arg.One v) ≡ one (tree_of v)
unfolding arg_of tree_of item_of
arg_of_One v = ap arg_of (sym (arg.rolls-One v)) ∙ fold-roll-Arg Argument Tree (Bool × Tree) arg_step expr_step item_step (expr_open.One v)

pub arg_of_Each : (at : ℕ) (name : List ℕ) (from to : Idx) (xs : List Arg) → arg_of (arg.Each at name from to xs) ≡ each_arg at name (index_of from) (index_of to) (arguments (map arg_of xs))
unfolding arg_of tree_of item_of
arg_of_Each at name from to xs = ap arg_of (sym (arg.rolls-Each at name from to xs)) ∙ fold-roll-Arg Argument Tree (Bool × Tree) arg_step expr_step item_step (expr_open.Each at name from to xs)

pub tree_of_Number : (at value : ℕ) → tree_of (expr.Number at value) ≡ number at value
unfolding arg_of tree_of item_of
tree_of_Number at value = ap tree_of (sym (expr.rolls-Number at value)) ∙ fold-roll-Expr Argument Tree (Bool × Tree) arg_step expr_step item_step (expr_open.Number at value)

pub tree_of_Var : (at : ℕ) (name : List ℕ) → tree_of (expr.Var at name) ≡ var at name
unfolding arg_of tree_of item_of
tree_of_Var at name = ap tree_of (sym (expr.rolls-Var at name)) ∙ fold-roll-Expr Argument Tree (Bool × Tree) arg_step expr_step item_step (expr_open.Var at name)

pub tree_of_Joint : (at : ℕ) (index : Idx) → tree_of (expr.Joint at index) ≡ joint at (index_of index)
unfolding arg_of tree_of item_of
tree_of_Joint at index = ap tree_of (sym (expr.rolls-Joint at index)) ∙ fold-roll-Expr Argument Tree (Bool × Tree) arg_step expr_step item_step (expr_open.Joint at index)

pub tree_of_Meas : (at : ℕ) (index : Idx) → tree_of (expr.Meas at index) ≡ meas at (index_of index)
unfolding arg_of tree_of item_of
tree_of_Meas at index = ap tree_of (sym (expr.rolls-Meas at index)) ∙ fold-roll-Expr Argument Tree (Bool × Tree) arg_step expr_step item_step (expr_open.Meas at index)

pub tree_of_MeasOrZero : (at : ℕ) (index : Idx) → tree_of (expr.MeasOrZero at index) ≡ meas_or_zero at (index_of index)
unfolding arg_of tree_of item_of
tree_of_MeasOrZero at index = ap tree_of (sym (expr.rolls-MeasOrZero at index)) ∙ fold-roll-Expr Argument Tree (Bool × Tree) arg_step expr_step item_step (expr_open.MeasOrZero at index)

pub tree_of_Sum : (at : ℕ) (name : List ℕ) (from to : Idx) (inner : Box Expr Global) → tree_of (expr.Sum at name from to inner) ≡ sum at name (index_of from) (index_of to) (tree_of inner.value)
unfolding arg_of tree_of item_of
tree_of_Sum at name from to inner = ap tree_of (sym (expr.rolls-Sum at name from to inner)) ∙ fold-roll-Expr Argument Tree (Bool × Tree) arg_step expr_step item_step (expr_open.Sum at name from to inner)

pub tree_of_Call : (at : ℕ) (name : List ℕ) (xs : List Arg) → tree_of (expr.Call at name xs) ≡ call at name (arguments (map arg_of xs))
unfolding arg_of tree_of item_of
tree_of_Call at name xs = ap tree_of (sym (expr.rolls-Call at name xs)) ∙ fold-roll-Expr Argument Tree (Bool × Tree) arg_step expr_step item_step (expr_open.Call at name xs)

pub tree_of_Add : (at : ℕ) (xs : List Item) → tree_of (expr.Add at xs) ≡ add at (items (map item_of xs))
unfolding arg_of tree_of item_of
tree_of_Add at xs = ap tree_of (sym (expr.rolls-Add at xs)) ∙ fold-roll-Expr Argument Tree (Bool × Tree) arg_step expr_step item_step (expr_open.Add at xs)

pub tree_of_Mul : (at : ℕ) (xs : List Expr) → tree_of (expr.Mul at xs) ≡ mul at (trees (map tree_of xs))
unfolding arg_of tree_of item_of
tree_of_Mul at xs = ap tree_of (sym (expr.rolls-Mul at xs)) ∙ fold-roll-Expr Argument Tree (Bool × Tree) arg_step expr_step item_step (expr_open.Mul at xs)

pub tree_of_Pow : (at : ℕ) (base : Box Expr Global) (exponent : Idx) → tree_of (expr.Pow at base exponent) ≡ pow at (tree_of base.value) (index_of exponent)
unfolding arg_of tree_of item_of
tree_of_Pow at base exponent = ap tree_of (sym (expr.rolls-Pow at base exponent)) ∙ fold-roll-Expr Argument Tree (Bool × Tree) arg_step expr_step item_step (expr_open.Pow at base exponent)

pub item_of_roll : (minus : Bool) (v : Expr) → item_of (roll-Item (record { minus = minus; expr = v })) ≡ (minus, tree_of v)
unfolding arg_of tree_of item_of
item_of_roll minus v = fold-roll-Item Argument Tree (Bool × Tree) arg_step expr_step item_step (record { minus = minus; expr = v })

-- one level of a statement
abbrev pub stmt_step : Stmt-F Statement → Statement
stmt_step (stmt_open.Check at v) = check at (tree_of v)
stmt_step (stmt_open.Out at v) = out at (tree_of v)
stmt_step (stmt_open.Each at name from to inner) = each at name (index_of from) (index_of to) (statements inner)

-- a statement
pub statement_of : Stmt → Statement
statement_of = fold-Stmt Statement stmt_step

pub statement_of_Check : (at : ℕ) (v : Expr) → statement_of (stmt.Check at v) ≡ check at (tree_of v)
unfolding statement_of
statement_of_Check at v = ap statement_of (sym (stmt.rolls-Check at v)) ∙ fold-roll-Stmt Statement stmt_step (stmt_open.Check at v)

pub statement_of_Out : (at : ℕ) (v : Expr) → statement_of (stmt.Out at v) ≡ out at (tree_of v)
unfolding statement_of
statement_of_Out at v = ap statement_of (sym (stmt.rolls-Out at v)) ∙ fold-roll-Stmt Statement stmt_step (stmt_open.Out at v)

pub statement_of_Each : (at : ℕ) (name : List ℕ) (from to : Idx) (xs : List Stmt) → statement_of (stmt.Each at name from to xs) ≡ each at name (index_of from) (index_of to) (statements (map statement_of xs))
unfolding statement_of
statement_of_Each at name from to xs = ap statement_of (sym (stmt.rolls-Each at name from to xs)) ∙ fold-roll-Stmt Statement stmt_step (stmt_open.Each at name from to xs)

-- one level of what a gadget computes
abbrev pub kind_step : KindText-F Kind → Kind
kind_step kind_open.Mul = mul_kind
kind_step (kind_open.Poly coefs) = poly_kind coefs
kind_step (kind_open.Psum count inner) = psum_kind count inner.value

-- what a gadget computes
pub kind_of : KindText → Kind
kind_of = fold-KindText Kind kind_step

pub kind_of_Mul : kind_of kind.Mul ≡ mul_kind
unfolding kind_of
kind_of_Mul = ap kind_of (sym kind.rolls-Mul) ∙ fold-roll-KindText Kind kind_step kind_open.Mul

pub kind_of_Poly : (coefs : List Coef) → kind_of (kind.Poly coefs) ≡ poly_kind coefs
unfolding kind_of
kind_of_Poly coefs = ap kind_of (sym (kind.rolls-Poly coefs)) ∙ fold-roll-KindText Kind kind_step (kind_open.Poly coefs)

pub kind_of_Psum : (count : ℕ) (inner : Box KindText Global) → kind_of (kind.Psum count inner) ≡ psum_kind count (kind_of inner.value)
unfolding kind_of
kind_of_Psum count inner = ap kind_of (sym (kind.rolls-Psum count inner)) ∙ fold-roll-KindText Kind kind_step (kind_open.Psum count inner)

-- a declaration, a body, a circuit
abbrev pub declaration_of : Decl → Declaration
declaration_of decl = record { at = decl.at; name = decl.name; kind = kind_of decl.kind }

abbrev pub program_of : Body → Program
program_of body = record { meas = body.meas; joint = body.joint; gadgets = map declaration_of body.gadgets; stmts = statements (map statement_of body.stmts) }

abbrev pub text_of : Circuit → Text
text_of (circuit.Standard params) = standard params
text_of (circuit.Body body) = program (program_of body)

-- the loops round a place, and their names
abbrev pub scope_of : List Bound → Scope
scope_of bounds = map (λ bound. record { name = bound.name.now; value = bound.value }) bounds

abbrev pub names_of : List (Bor (List ℕ)) → Names
names_of names = map (λ name. name.now) names

-- the equations of the views of trees
pub ruleset view_equations = (index_of_Number, index_of_Var, index_of_Add, index_of_Mul, index_item_of_roll, arg_of_One, arg_of_Each, tree_of_Number, tree_of_Var, tree_of_Joint, tree_of_Meas, tree_of_MeasOrZero, tree_of_Sum, tree_of_Call, tree_of_Add, tree_of_Mul, tree_of_Pow, item_of_roll, statement_of_Check, statement_of_Out, statement_of_Each, kind_of_Mul, kind_of_Poly, kind_of_Psum)
