use Rattle.html_clean.specs.Ready.{IsTextAlone, IsTextAndLinks, IsUserContent}
use Rattle.html_policy_text.specs.ReadyRules.{rules_of_ready}
use Rattle.html_policy_text.specs.declared.ready.Ready.TheVariants.{TextAlone, TextAndLinks, UserContent}
use Rattle.html_policy_text.proofs.ReadyPolicies.{made, text-alone, text-and-links, user-content}
use Rattle.html_policy_text.proofs.ready.Ready.policy.Goals as goal

pub returns-in-TextAlone-clause-ok : goal.returns-in-TextAlone-clause-ok
returns-in-TextAlone-clause-ok c =
    rw c.in-TextAlone.is (made c.text_alone.result IsTextAlone (rules_of_ready TextAlone) c.text_alone.ensures.ok text-alone)

pub returns-in-TextAndLinks-clause-ok : goal.returns-in-TextAndLinks-clause-ok
returns-in-TextAndLinks-clause-ok c =
    rw c.in-TextAndLinks.is
    (made c.text_and_links.result IsTextAndLinks (rules_of_ready TextAndLinks) c.text_and_links.ensures.ok text-and-links)

pub returns-in-UserContent-clause-ok : goal.returns-in-UserContent-clause-ok
returns-in-UserContent-clause-ok c =
    rw c.in-UserContent.is
    (made c.user_content.result IsUserContent (rules_of_ready UserContent) c.user_content.ensures.ok user-content)
