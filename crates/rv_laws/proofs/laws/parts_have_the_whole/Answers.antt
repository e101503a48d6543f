use Rattle.rv_laws.proofs.InstanceLemmas.{all_are_kept}
use Rattle.rv_laws.proofs.JoinLemmas.{parts_have_all_records}
use Rattle.rv_laws.proofs.LineJoinLemmas.{merged_by_line_is_whole}
use Rattle.rv_laws.proofs.PartRecordLemmas.{part_has_its_records}
use Rattle.rv_laws.proofs.laws.parts_have_the_whole.Goals as goal

pub returns-clause-part : goal.returns-clause-part
returns-clause-part c = part_has_its_records

pub returns-clause-all : goal.returns-clause-all
returns-clause-all c = parts_have_all_records

pub returns-clause-kept : goal.returns-clause-kept
returns-clause-kept c = all_are_kept

pub returns-clause-by_line : goal.returns-clause-by_line
returns-clause-by_line c = merged_by_line_is_whole
