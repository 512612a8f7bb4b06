-- What a parsed question file says, in the definitions' form.
use Rattle.question_file.specs.declared.file.QuestionFile.{QuestionFile}
use Rattle.question_file.specs.Asked.{Asked, lists_of}

-- the tower, the question and the limit of a parsed file, as the definitions' `Asked`
abbrev pub as_asked : QuestionFile → Asked
as_asked f = record {
  tower = f.tower;
  value = f.question.value;
  operations = lists_of f.question.operations.items;
  after = f.question.after.items;
  may_stop = f.question.may_stop.items;
  most = f.most;
}
