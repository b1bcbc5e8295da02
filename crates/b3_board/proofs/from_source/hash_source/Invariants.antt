use Rattle.std.proofs.Common.{◌+◌}
use Rattle.b3_board.specs.Regions.{region}
use Rattle.b3_board.proofs.from_source.hash_source.Given as goal

abbrev pub ghosts-hash_source_on-L-InputLedger : goal.ghosts-hash_source_on-L-InputLedger
ghosts-hash_source_on-L-InputLedger g a = record {
  input = region (g.S.Source.told a.plan.now.source.now) a.plan.now.offset a.plan.now.len;
  mode = a.plan.now.mode;
  first = a.plan.now.first;
}

abbrev pub ghosts-hash_source_on-L-SourceLedger : goal.ghosts-hash_source_on-L-SourceLedger
ghosts-hash_source_on-L-SourceLedger g a = record {
  grain = a.plan.now.grain;
  sure = g.S.Source.sure a.plan.now.source.now (a.plan.now.offset + a.plan.now.len);
}

abbrev pub ghosts-hash_source_on-L-Ledger : goal.ghosts-hash_source_on-L-Ledger
ghosts-hash_source_on-L-Ledger g a = record { name = a.blank.name; parts = a.blank.parts }
