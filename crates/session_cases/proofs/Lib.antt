mod Beginning
mod LostTakes
mod NewRooms
mod ScriptMoves
