-- The gadgets of a circuit, and how often they are called. No word of an encoding and no answer decides that, so it is read off the circuit with
-- nothing read: under every reading the calls are of the same gadgets in the same order. From the kinds up to the domains.
use Rattle.std.specs.Prelude.{ℕ, zero, suc, ◌+◌, ◌^◌, nat_le, ◌==◌, Bool, if◌then◌else◌, List, [], map, length, take, slice_index, Option, None, Some}
use Rattle.std.specs.Option.{unwrap_or}
use Rattle.std.specs.List.{range_with_len, filter}
use Rattle.flp_gadget.specs.KindTree as tree
use Rattle.flp_syntax.specs.Tree.{Program}
use Rattle.flp_meaning.specs.Meaning.{Call, Reading}
use Rattle.flp_meaning.specs.Circuit.{circuit_of, calls_of, checks_of, kind_of}

-- the first of so many numbers from `start` on that passes a test
abbrev pub first_where : (ℕ → Bool) → ℕ → ℕ → Option ℕ
first_where test start zero = None
first_where test start (suc count) = if test start then Some start else first_where test (suc start) count

-- the numbers of the gadgets, in the order of their declarations
abbrev pub gadgets_of : Program → List ℕ
gadgets_of body = range_with_len 0 (length body.gadgets)

abbrev pub arity_of : Program → ℕ → ℕ
arity_of body gadget = tree.kind_arity (kind_of body gadget)

abbrev pub degree_of : Program → ℕ → ℕ
degree_of body gadget = tree.kind_degree (kind_of body gadget)

-- ---- calls

-- nothing read: every word is 0, and so is every answer
abbrev pub blank : Reading
blank = record { joint = []; meas = []; unit = 1; answer = λ number call. 0 }

-- the gadgets of the calls, in the order of the calls
abbrev pub gadgets_called : Program → List ℕ
gadgets_called body = map (λ (call : Call). call.gadget) (calls_of body blank)

-- how many of these are this gadget
abbrev pub times : ℕ → List ℕ → ℕ
times gadget called = length (filter (λ other. other == gadget) called)

-- how many calls there are, and how many of a gadget
abbrev pub call_count : Program → ℕ
call_count body = length (gadgets_called body)

abbrev pub calls_made : Program → ℕ → ℕ
calls_made body gadget = times gadget (gadgets_called body)

-- the gadget of a call, by its number among all calls, from 0; and its number among the calls of that gadget, from 1
abbrev pub call_gadget : Program → ℕ → ℕ
call_gadget body number = slice_index (gadgets_called body) number

abbrev pub call_number : Program → ℕ → ℕ
call_number body number = times (call_gadget body number) (take (number + 1) (gadgets_called body))

-- the calls of one gadget, in order
abbrev pub calls_to : ℕ → List Call → List Call
calls_to gadget calls = filter (λ (call : Call). call.gadget == gadget) calls

-- how many checks and outs there are
abbrev pub check_count : Program → ℕ
check_count body = length (checks_of body blank)

abbrev pub out_count : Program → ℕ
out_count body = length (circuit_of body blank).value.outs

-- ---- domains

-- the least power of two that is at least a number, by its exponent. What it is a proof takes from the laws
unfoldable pub ceil_log : ℕ → ℕ
ceil_log n = unwrap_or (first_where (λ log. nat_le n (2 ^ log)) 0 (n + 1)) 0

-- the wires of a gadget are given on a domain with a point for each call and one more
abbrev pub log_of : Program → ℕ → ℕ
log_of body gadget = ceil_log (calls_made body gadget + 1)

abbrev pub size_of : Program → ℕ → ℕ
size_of body gadget = 2 ^ log_of body gadget
