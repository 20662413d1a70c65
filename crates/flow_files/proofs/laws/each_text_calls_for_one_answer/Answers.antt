use Rattle.flow_files.proofs.files.FileAnswers.{calls_for_one}
use Rattle.flow_files.proofs.laws.each_text_calls_for_one_answer.Goals as goal

pub returns : goal.returns
returns c = calls_for_one
