pub mod ChainMoves
