-- The calls of a flow shard, and the rooms of nodes and arcs.
use Rattle.std.specs.Prelude.{ℕ, ℤ, pos, unsigned_abs}
use Rattle.std.specs.Int.{w64, int_wrapping_neg, int_rem_euclid}
use Rattle.gx_base.specs.declared.calls.Call.{Call}
pub use Rattle.gx_base.specs.FlowKind.{height_method, relabel_method, excess_method, gain_method, flow_method, send_method}

abbrev pub flow_call_of : ℕ → ℤ → ℤ → Call
flow_call_of method a b = record { method = method; a = a; b = b; c = pos 0; d = pos 0 }

abbrev pub height : ℤ → Call
height node = flow_call_of height_method node (pos 0)

abbrev pub relabel : ℤ → ℤ → Call
relabel node level = flow_call_of relabel_method node level

abbrev pub excess : ℤ → Call
excess node = flow_call_of excess_method node (pos 0)

abbrev pub gain : ℤ → ℤ → Call
gain node amount = flow_call_of gain_method node amount

abbrev pub flow : ℤ → Call
flow arc = flow_call_of flow_method arc (pos 0)

abbrev pub send : ℤ → ℤ → Call
send arc amount = flow_call_of send_method arc amount

-- how many rooms there are
abbrev pub rooms : ℕ
rooms = 16

-- nodes and arcs stand in the rooms by their numbers
abbrev pub room_of : ℤ → ℕ
room_of number = unsigned_abs (int_rem_euclid number (pos rooms))

abbrev pub minus : ℤ → ℤ
minus x = int_wrapping_neg w64 x
