-- A node is met before its parts.
use Rattle.std.proofs.Common.{[], ◌∷◌}
use Rattle.flp_syntax.specs.Tree.{Index, index_number, index_var, index_add, index_mul, Tree, number, var, joint, meas, meas_or_zero, sum, call, add, mul, pow, Statement, check, out, each, Program}
use Rattle.flp_syntax.specs.Scope.{Scope}
use Rattle.flp_syntax.specs.declared.fault.LangFault.{LangFault}
use Rattle.flp_check.specs.Events.{visit, index_events, tree_events, stmt_events}
use Rattle.flp_check.specs.Counts.{Counts, Stops}
use Rattle.flp_check.proofs.Walking.{stops_front}

pub index_stops : (s : Scope) (x : Index) {a : Counts} {fault : LangFault} → Stops a (visit ∷ []) fault → Stops a (index_events s x) fault
index_stops s (index_number at value) h = stops_front _ h
index_stops s (index_var at name) h = stops_front _ h
index_stops s (index_add at items) h = stops_front _ h
index_stops s (index_mul at factors) h = stops_front _ h

pub tree_stops : (p : Program) (s : Scope) (x : Tree) {a : Counts} {fault : LangFault} → Stops a (visit ∷ []) fault → Stops a (tree_events p s x) fault
tree_stops p s (number at value) h = h
tree_stops p s (var at name) h = h
tree_stops p s (joint at index) h = stops_front _ h
tree_stops p s (meas at index) h = stops_front _ h
tree_stops p s (meas_or_zero at index) h = stops_front _ h
tree_stops p s (sum at name from to inner) h = stops_front _ h
tree_stops p s (call at name args) h = stops_front _ h
tree_stops p s (add at items) h = stops_front _ h
tree_stops p s (mul at factors) h = stops_front _ h
tree_stops p s (pow at base exponent) h = stops_front _ h

pub stmt_stops : (p : Program) (s : Scope) (x : Statement) {a : Counts} {fault : LangFault} → Stops a (visit ∷ []) fault → Stops a (stmt_events p s x) fault
stmt_stops p s (check at expr) h = stops_front _ h
stmt_stops p s (out at expr) h = stops_front _ h
stmt_stops p s (each at name from to inner) h = stops_front _ h
