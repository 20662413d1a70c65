use Rattle.session_cases.proofs.networks.new_rooms.Goals as goal
