use Rattle.std.proofs.Common.{◌∙◌}
use Rattle.html_tokenizer.proofs.RawText.FittingEnds.{end_tag-kept}
use Rattle.html_tokenizer.proofs.tokenizer.Tokenizer.raw_end_tag.Goals as goal

pub returns : goal.returns
returns g c =
    let m = g.Sink.TokenSink in
    end_tag-kept m _ _ _ _ _ _ _ c.requires.at c.lowered.ensures.letters c.requires.held c.requires.ends
    (c.from_text.ensures ∙ c.in_ok-name.ensures.ok) c.new.ensures c.tag_name_state.ensures
