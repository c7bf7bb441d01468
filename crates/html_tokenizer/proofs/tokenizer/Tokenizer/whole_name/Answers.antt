use Rattle.html_tokenizer.proofs.Fronts.References.{whole-name}
use Rattle.html_tokenizer.proofs.tokenizer.Tokenizer.whole_name.Goals as goal

pub returns : goal.returns
returns g c = record {
  name = whole-name c.args.self.now.stream.table c.rows-rows.ensures.table _ c.in_ok-found.ensures.front c.requires;
  is = c.in_ok-found.ensures;
  ends = c.requires;
}
