use Rattle.std.proofs.Common.{◌≡◌, ◌∙◌, ap, ap₂, codes, true}
use Rattle.std.proofs.lemmas.Result.{IfOk-weaker}
use Rattle.clap.specs.Simple.{App, Shape, app_of_fields, new_app, on_top}
use Rattle.clap.specs.Words.{app_of, with_rule}
use Rattle.arn_words.specs.Words.{log_rule, round_rule, seed_rule, without_more}
use Rattle.arn_words.proofs.command.command.Goals as goal

pub returns : goal.returns
returns c =
    let named : app_of c.no_binary_name.result ≡ on_top (λ (s : Shape). record s { no_binary_name = true }) (new_app (codes "arnold")) =
    ap app_of_fields c.no_binary_name.ensures ∙ ap (λ (a : App). on_top (λ (s : Shape). record s { no_binary_name = true }) a) c.new.ensures.app in
    let helpless : app_of c.disable_help_flag.result ≡ on_top (λ (s : Shape). record s { no_binary_name = true; disable_help_flag = true }) (new_app (codes "arnold")) =
    ap app_of_fields c.disable_help_flag.ensures ∙ ap (λ (a : App). on_top (λ (s : Shape). record s { disable_help_flag = true }) a) named in
    let bare : app_of c.disable_version_flag.result ≡ on_top without_more (new_app (codes "arnold")) =
    ap app_of_fields c.disable_version_flag.ensures ∙ ap (λ (a : App). on_top (λ (s : Shape). record s { disable_version_flag = true }) a) helpless in
    let with_log = c.in_ok-arg.ensures.shape c.log_argument.ensures.local ∙ ap₂ with_rule bare c.log_argument.ensures.rule in
    let with_round = c.in_ok-arg-2.ensures.shape c.round_argument.ensures.local ∙ ap₂ with_rule with_log c.round_argument.ensures.rule in
    let with_seed = c.in_ok-arg-3.ensures.shape c.seed_argument.ensures.local ∙ ap₂ with_rule with_round c.seed_argument.ensures.rule in
    IfOk-weaker c.arg-4.result _ _ (λ r added. added.shape c.random_argument.ensures.local ∙ ap₂ with_rule with_seed c.random_argument.ensures.rule) c.arg-4.ensures
