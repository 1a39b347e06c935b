mod HelpLemmas
mod Left
