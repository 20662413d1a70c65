-- What the words that stand alone write: texts, whatever else there is.
use Rattle.std.specs.Prelude.{◌≡◌, ℕ, List, [], ◌∷◌, ◌++◌, codes, ⊤}
use Rattle.std.specs.List.{flat_map}
use Rattle.run_commands.specs.CommandMeaning.{CommandMeaning}

-- how the program is called, line by line
abbrev pub help_lines : List (List ℕ)
help_lines =
    codes "usage: galois COMMAND WORDS [--name value]..."
    ∷ codes ""
    ∷ codes "Commands:"
    ∷ codes "  flow FILE       run preflow-push on the network in FILE, and write the order of"
    ∷ codes "                  the commits and the flow that they leave"
    ∷ codes "  cluster FILE    merge the points in FILE, each time"
    ∷ codes "                  two of which each is the nearest to the other, and write the"
    ∷ codes "                  order of the commits, the merges and the point that is left"
    ∷ codes "  classify FILE   read the table of conditions in FILE, and write the class of"
    ∷ codes "                  each of its rows, and the lock modes that keep it"
    ∷ codes "  --help          write this text"
    ∷ codes "  --version       write the name and the version of the program"
    ∷ codes ""
    ∷ codes "FILE is a word that isn't empty and doesn't begin with --."
    ∷ codes ""
    ∷ codes "Options of flow and of cluster, in any order, each at most once:"
    ∷ codes "  --virtual N     how many virtual workers run it, from 1 to 64; default 1"
    ∷ codes "  --turns N       how many turns are scheduled, from 0 to 1000000; default 0"
    ∷ codes "  --seed N        the seed of the schedule, 1 to 18 digits; default 0"
    ∷ codes "  --trace on      write a line for each scheduled turn, and for each call that is"
    ∷ codes "                  undone after these; default off"
    ∷ codes "  --told on       write a line for each conflict; default off"
    ∷ codes "  --table NAME    the table under which calls conflict: precise, simple, rw or global;"
    ∷ codes "                  default precise"
    ∷ codes "  --conditions F  the user's own table in the file F, in place of --table; it has to be"
    ∷ codes "                  below the precise one"
    ∷ codes ""
    ∷ codes "Statuses, each but 0 with its line on standard error:"
    ∷ codes "  0   the output was written whole"
    ∷ codes "  1   galois: usage: galois COMMAND WORDS [--name value]..."
    ∷ codes "      the words are none of the above"
    ∷ codes "  2   galois: line N: bad input"
    ∷ codes "      FILE isn't of the command's form, and N is the line of its first fault"
    ∷ codes "  3   galois: reading failed"
    ∷ codes "  4   galois: writing failed"
    ∷ codes "      some of the output may have been written"
    ∷ codes "  5   galois: no memory"
    ∷ codes "  6   galois: too large: WHAT"
    ∷ codes "      the file, or its nodes, arcs or points, are more than may be"
    ∷ codes "  7   galois: spent"
    ∷ codes "      4194304 items have committed, and another would"
    ∷ codes "  8   galois: kept"
    ∷ codes "      with one more commit more than 8388608 calls would have committed"
    ∷ codes "  9   galois: conditions: line N, or galois: conditions: M1 M2"
    ∷ codes "      the file of conditions is at fault on line N, or its row of the methods M1 and"
    ∷ codes "      M2 isn't below the precise one"
    ∷ codes ""
    ∷ codes "Examples:"
    ∷ codes "  galois flow examples/four-nodes.max"
    ∷ codes "  galois flow examples/conflict.max --virtual 2 --turns 22 --trace on"
    ∷ codes "  galois cluster examples/square.points"
    ∷ []

abbrev pub help_text : List ℕ
help_text = flat_map (λ words. words ++ codes "\n") help_lines

abbrev pub version_text : List ℕ
version_text = codes "galois 0.1\n"

-- a text is written, and nothing is read
abbrev pub told_meaning : List ℕ → CommandMeaning
told_meaning text = record {
  reported = λ inputs report. report ≡ text;
  bad_table = λ inputs why. ⊥;
  malformed = λ inputs line. ⊥;
  too_large = λ inputs what. ⊥;
  passes = λ inputs limit. ⊥;
  ends = λ inputs. ⊤;
  faults = λ why. ⊥;
  lines = λ line. ⊥;
  limits = λ what. ⊥;
  runs_on = ⊥;
}
