use Rattle.html_tokenizer.proofs.Fronts.References.{whole-valued}
use Rattle.html_tokenizer.proofs.tokenizer.Tokenizer.consume_whole_name.Goals as goal

pub returns-clause-keeps : goal.returns-clause-keeps
returns-clause-keeps g c =
    λ cs whole. whole-valued g.Sink.TokenSink c.args.kind c.args.self.now cs _ c.args.found c.push_found.result
    c.requires.at c.requires.sound whole c.push_found.ensures.ok c.push_found.ensures.fault
