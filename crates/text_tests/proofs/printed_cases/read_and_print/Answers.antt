use Rattle.text_tests.proofs.printed_cases.read_and_print.Goals as goal

pub returns : goal.returns
returns c =
    let kind = c.in_ok-kind.kind in
    let table = c.in_ok-kind.table in
    let back = c.in_ok-printed.ensures.reads_back (c.read_tables_are_printable.ensures c.args.wanted.now c.args.bytes.now kind table c.in_ok-kind.ensures.table) in
    record {
      wherever_wanted = back;
      as_wanted = back c.args.wanted.now (c.read_tables_are_of_wanted_kinds.ensures c.args.wanted.now c.args.bytes.now kind table c.in_ok-kind.ensures.table);
    }
