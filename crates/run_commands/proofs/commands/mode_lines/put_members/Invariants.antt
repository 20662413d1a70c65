use Rattle.std.proofs.Common.{◌≡◌, ◌++◌, ◌∷◌, take, string_bytes}
use Rattle.std.specs.List.{flat_map}
use Rattle.run_commands.specs.commands.ModeLines.{member_text}
use Rattle.run_commands.proofs.commands.mode_lines.put_members.Given as goal

-- the members so far were put
abbrev pub invariant-loop-member : goal.invariant-loop-member
invariant-loop-member l = string_bytes l.text ≡ string_bytes l.fn.text ++ flat_map (λ member. 32 ∷ member_text member) (take l.member-index l.members)
